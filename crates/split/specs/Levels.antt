-- A level of the split, in place: each node's block of numbers is cut into halves, or joined from them; the first level takes thirds where there are thirds.
-- Assumes nothing.
use Rattle.std.specs.Prelude.{◌≡◌, List, ◌⊎◌, ℕ, ◌+◌, ◌-◌, ◌*◌, ◌/◌, ◌^◌, ◌<◌, ◌≤◌, ℤ, pos, ◌*ℤ◌, length, get_or}
use Rattle.algebra.specs.Integer.{residue, sum}
use Rattle.transform.specs.Convolution.{entry}
use Rattle.split_tables.specs.Split.{PowerOfTwo, Twists, root_at}
use Rattle.split.specs.Fold.{Modulus, folded}

-- the n numbers of a list from a place on are below b
pub record UnderIn (b : ℕ) (x : List ℕ) (from n : ℕ) : Type 0 where
  pub each : (k : ℕ) → k < n → get_or x (from + k) 0 < b

-- a block modulo x^(2h) - c² is cut into a block modulo x^h - c and one modulo x^h + c: numbers a and b of its halves become a + c b and a - c b
abbrev pub cut_low : ℕ → ℕ → ℕ → ℕ → ℕ
cut_low q c a b = a + folded q (c * b)

abbrev pub cut_high : ℕ → ℕ → ℕ → ℕ → ℕ
cut_high q c a b = a + (3 * q - folded q (c * b))

-- and back: a + b and c (a - b)
abbrev pub join_low : ℕ → ℕ → ℕ → ℕ → ℕ
join_low q c a b = a + b

abbrev pub join_high : ℕ → ℕ → ℕ → ℕ → ℕ
join_high q c a b = folded q (c * (a + (64 * q - b)))

-- new is old with the first n pairs, of places `from` + k and `from` + h + k, taken to low and high of the pair
pub record Paired (low high : ℕ → ℕ → ℕ) (from h : ℕ) (old new : List ℕ) (n : ℕ) : Type 0 where
  pub size : length new ≡ length old
  pub first : (k : ℕ) → k < n → get_or new (from + k) 0 ≡ low (get_or old (from + k) 0) (get_or old (from + h + k) 0)
  pub second : (k : ℕ) → k < n → get_or new (from + h + k) 0 ≡ high (get_or old (from + k) 0) (get_or old (from + h + k) 0)
  pub rest_first : (k : ℕ) → n ≤ k → k < h → get_or new (from + k) 0 ≡ get_or old (from + k) 0
  pub rest_second : (k : ℕ) → n ≤ k → k < h → get_or new (from + h + k) 0 ≡ get_or old (from + h + k) 0
  pub before : (k : ℕ) → k < from → get_or new k 0 ≡ get_or old k 0
  pub behind : (k : ℕ) → from + h + h ≤ k → get_or new k 0 ≡ get_or old k 0

-- new is old with the blocks of the first n nodes so taken, node b with twist c b
pub record Level (low high : ℕ → ℕ → ℕ → ℕ) (c : ℕ → ℕ) (h : ℕ) (old new : List ℕ) (n : ℕ) : Type 0 where
  pub size : length new ≡ length old
  pub first : (b k : ℕ) → b < n → k < h → get_or new (b * (2 * h) + k) 0 ≡ low (c b) (get_or old (b * (2 * h) + k) 0) (get_or old (b * (2 * h) + h + k) 0)
  pub second : (b k : ℕ) → b < n → k < h → get_or new (b * (2 * h) + h + k) 0 ≡ high (c b) (get_or old (b * (2 * h) + k) 0) (get_or old (b * (2 * h) + h + k) 0)
  pub behind : (k : ℕ) → n * (2 * h) ≤ k → get_or new k 0 ≡ get_or old k 0

-- thirds, by the two cube roots c and d of 1 beside 1: a + b + e, a + c b + d e, a + d b + c e; the same cuts and joins
abbrev pub third_low : ℕ → ℕ → ℕ → ℕ
third_low a b e = a + b + e

abbrev pub third_high : ℕ → ℕ → ℕ → ℕ → ℕ → ℕ → ℕ
third_high q c d a b e = folded q (a + c * b + d * e)

-- new is old with the first n triples, of places k, h + k and 2 h + k, so taken
pub record Tripled (q c d h : ℕ) (old new : List ℕ) (n : ℕ) : Type 0 where
  pub size : length new ≡ length old
  pub first : (k : ℕ) → k < n → get_or new k 0 ≡ third_low (get_or old k 0) (get_or old (h + k) 0) (get_or old (h + h + k) 0)
  pub second : (k : ℕ) → k < n → get_or new (h + k) 0 ≡ third_high q c d (get_or old k 0) (get_or old (h + k) 0) (get_or old (h + h + k) 0)
  pub third : (k : ℕ) → k < n → get_or new (h + h + k) 0 ≡ third_high q d c (get_or old k 0) (get_or old (h + k) 0) (get_or old (h + h + k) 0)
  pub rest_first : (k : ℕ) → n ≤ k → k < h → get_or new k 0 ≡ get_or old k 0
  pub rest_second : (k : ℕ) → n ≤ k → k < h → get_or new (h + k) 0 ≡ get_or old (h + k) 0
  pub rest_third : (k : ℕ) → n ≤ k → k < h → get_or new (h + h + k) 0 ≡ get_or old (h + h + k) 0

-- ---- what the levels work out, each number modulo q
-- the tree of a split: twists of K roots; the first level, of thirds where there are thirds, leaves a power of two of them below each node
pub record Tree (q start : ℕ) (twists : List ℕ) : Type 0 where
  pub modulus : Modulus q
  pub twisted : Twists q (length twists) start twists
  pub starts : (start ≡ 1) ⊎ (start ≡ 3)
  pub depth : PowerOfTwo (length twists / start)
  pub shallow : depth.exponent ≤ 4
  pub parts : start * (length twists / start) ≡ length twists
  pub few : length twists ≤ 24

-- the roots
abbrev pub root_of : ℕ → List ℕ → ℕ → ℕ
root_of q twists = root_at q twists (length twists)

abbrev pub Same : ℕ → ℤ → ℤ → Type 0
Same q a b = residue a q ≡ residue b q

-- x has, for each of so many nodes, u modulo x^(leaves l) - c, where c is what each root below the node has to the power `leaves`
pub record Cut (q l : ℕ) (root : ℕ → ℕ) (u x : List ℕ) (nodes leaves : ℕ) : Type 0 where
  pub each : (b s i : ℕ) → b < nodes → s < leaves → i < leaves * l
      → Same q (entry x (b * (leaves * l) + i)) (sum (λ (j : ℕ). pos (root (b * leaves + s) ^ (leaves * j)) *ℤ entry u (j * (leaves * l) + i)) nodes)

-- x has, for each of so many nodes, sums of the blocks of y below it by powers of their roots
pub record Joined (q l : ℕ) (root : ℕ → ℕ) (y x : List ℕ) (nodes leaves : ℕ) : Type 0 where
  pub each : (b e v : ℕ) → b < nodes → e < leaves → v < l
      → Same q (entry x (b * (leaves * l) + (e * l + v))) (sum (λ (s : ℕ). pos (root (b * leaves + s) ^ e) *ℤ entry y ((b * leaves + s) * l + v)) leaves)

-- whatever old is cut from, new is cut from it too, at another level
pub record CutFurther (q l : ℕ) (root : ℕ → ℕ) (nodes leaves : ℕ) (old : List ℕ) (nodes2 leaves2 : ℕ) (new : List ℕ) : Type 0 where
  pub each : (u : List ℕ) → Cut q l root u old nodes leaves → Cut q l root u new nodes2 leaves2

-- whatever old is joined from, new is joined from it too, at another level
pub record JoinedFurther (q l : ℕ) (root : ℕ → ℕ) (nodes leaves : ℕ) (old : List ℕ) (nodes2 leaves2 : ℕ) (new : List ℕ) : Type 0 where
  pub each : (y : List ℕ) → Joined q l root y old nodes leaves → Joined q l root y new nodes2 leaves2

-- numbers grow to three times as much at most
pub record Threefold (q : ℕ) (old new : List ℕ) : Type 0 where
  pub each : (n : ℕ) → 0 < n → UnderIn (n * q) old 0 (length old) → UnderIn (3 * n * q) new 0 (length new)
