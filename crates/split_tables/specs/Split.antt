-- Fast evaluation: what a set's tables hold. N - 1 = K × L, where K-th roots of unity modulo q split the polynomial x^(N-1) - 1 into K factors
-- x^L - root, so that one cyclic convolution of length N - 1 becomes K products of length L.
-- Assumes nothing.
use Rattle.std.specs.Prelude.{◌≡◌, cond, List, ℕ, ◌+◌, ◌-◌, ◌*◌, ◌/◌, ◌^◌, ◌%◌, ◌<◌, ◌≤◌, T, eqb, pos, ◌*ℤ◌, length, get_or, take, drop}
use Rattle.algebra.specs.All.{are_below}
use Rattle.algebra.specs.Integer.{residue, sum}
use Rattle.parameters.specs.declared.Params.{Params}
use Rattle.transform.specs.Asks.{TableOf}
use Rattle.transform.specs.Generator.{GeneratorTable}
use Rattle.split_tables.specs.declared.Shape.{Shape}

-- the split of each N: K roots, blocks of L, and into how many parts the first level cuts before all others halve
unfoldable pub shape_of : ℕ → Shape
shape_of n =
    cond (eqb n 433) (record { k = 16; l = 27; start = 1 })
    (cond (eqb n 577) (record { k = 8; l = 72; start = 1 })
    (cond (eqb n 769) (record { k = 6; l = 128; start = 3 }) (record { k = 24; l = 48; start = 3 })))

-- a set is evaluated by the split where q is large enough for its arithmetic, above 2^19
abbrev pub split_from : ℕ
split_from = 524289

-- ---- the roots
-- The levels form a tree: a node stands for the roots below it, K divided by the number of nodes, and the halves of a node for a number and its negative, the
-- node's twist. Twist b of the level with so many nodes is at place nodes + b; places 1 and 2 have the twists of the thirds where there are thirds.
-- What root s has at the level where each half of a node has `half` roots: the twist of its node, or the negative of it in the second half.
abbrev pub twist_at : ℕ → List ℕ → ℕ → ℕ → ℕ → ℕ
twist_at q twists nodes half s =
    cond (eqb (s / half % 2) 0) (get_or twists (nodes + s / (2 * half)) 0) (q - get_or twists (nodes + s / (2 * half)) 0)

-- root s: what it has at the last level
abbrev pub root_at : ℕ → List ℕ → ℕ → ℕ → ℕ
root_at q twists k s = twist_at q twists (k / 2) 1 s

-- the third that root s is in has 1, or one of two more cube roots of 1
abbrev pub third_at : List ℕ → ℕ → ℕ → ℕ
third_at twists k s = cond (eqb (s / (k / 3)) 0) 1 (get_or twists (s / (k / 3)) 0)

pub record PowerOfTwo (x : ℕ) : Type 0 where
  pub exponent : ℕ
  pub is : x ≡ 2 ^ exponent

-- the twists of K roots: at each level, the root's power by which it is in its half; and in its third
pub record Twists (q k start : ℕ) (twists : List ℕ) : Type 0 where
  pub size : length twists ≡ k
  pub below : T (are_below q twists)
  pub halves : (nodes half s : ℕ) → nodes * (2 * half) ≡ k → PowerOfTwo half → s < k → root_at q twists k s ^ half % q ≡ twist_at q twists nodes half s % q
  pub thirds : start ≡ 3 → (s : ℕ) → s < k → root_at q twists k s ^ (k / 3) % q ≡ third_at twists k s % q
  pub squares : start ≡ 3 → (get_or twists 1 0 * get_or twists 1 0 % q ≡ get_or twists 2 0) × (get_or twists 2 0 * get_or twists 2 0 % q ≡ get_or twists 1 0)
  pub unity : (s : ℕ) → s < k → root_at q twists k s ^ k % q ≡ 1

-- ---- the rows
-- the numbers in a row: place i of a block meets places 0 .. L - 1 of another
abbrev pub width : ℕ → ℕ
width l = 2 * l - 1

-- number x of row s
abbrev pub row_at : ℕ → List ℕ → ℕ → ℕ → ℕ
row_at l rows s x = get_or rows (s * width l + x) 0

-- the one rule: K rows of 2 L - 1 numbers whose sums with powers e of the roots are the powers of g, in the order of the generator's powers
pub record Rows (p : Params) (base k l : ℕ) (root : ℕ → ℕ) (rows : List ℕ) : Type 0 where
  pub size : length rows ≡ k * width l
  pub below : T (are_below p.q rows)
  pub rule : (e x : ℕ) → e < k → x < width l
      → residue (sum (λ (s : ℕ). pos (root s ^ e) *ℤ pos (row_at l rows s x)) k) p.q ≡ p.g ^ (base ^ (e * l + x)) % p.q

-- ---- the tables of a split: the generator's powers, the twists, the rows
pub record SplitTables (p : Params) (order twists rows : List ℕ) : Type 0 where
  pub from : split_from ≤ p.q
  pub to : p.q < 2 ^ 20
  pub shape : (shape_of p.n).k * (shape_of p.n).l ≡ p.n - 1
  pub base : ℕ
  pub generator : GeneratorTable base p.n order
  pub twisted : Twists p.q (shape_of p.n).k (shape_of p.n).start twists
  pub rowed : Rows p base (shape_of p.n).k (shape_of p.n).l (root_at p.q twists (shape_of p.n).k) rows

-- the three one after the other, 3 (N - 1) numbers: N - 1, K and K (2 L - 1). A set that is not evaluated by the split has the generator's powers too
pub record SplitTable (p : Params) (t : List ℕ) : Type 0 where
  pub size : length t ≡ 3 * (p.n - 1)
  pub ordered : TableOf p.n (take (p.n - 1) t)
  pub parts : split_from ≤ p.q → SplitTables p (take (p.n - 1) t) (take (shape_of p.n).k (drop (p.n - 1) t)) (drop (p.n - 1 + (shape_of p.n).k) t)
