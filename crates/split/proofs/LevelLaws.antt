-- A level's loops, one turn at a time.
-- Assumes nothing.
use mathlib.Core.Path.{◌≡◌, refl, sym, ap, ap₂, ◌∙◌, subst}
use mathlib.Core.List.{List}
use Prim.Native.Nat.{ℕ, ◌+◌, ◌*◌, ◌<◌, ◌≤◌}
use native.Mathlib.Nat.{zero-add, add-mul, mul-le-mul_right}
use native.Mathlib.Omega.{arith}
use borrow.Author.Tests.{eqb-true, eqb-false}
use lib.Dec.{eqb}
use lib.ListN.{length, get_or, set, length-set}
use lib.Seq.{get_or-set_same, get_or-set_other}
use Rattle.algebra.proofs.Test.{by_test}
use Rattle.parameters.specs.Limits.{max_n}
use Rattle.split.specs.Levels.{UnderIn, Paired, Level, Tripled, third_low, third_high}

-- the numbers of a list from its first on are below b, by their places
pub under_at : {b n : ℕ} {x : List ℕ} → UnderIn b x 0 n → (k : ℕ) → k < n → get_or x k 0 < b
under_at {b} {n} {x} under k l = subst (λ (i : ℕ). get_or x i 0 < b) (zero-add k) (under.each k l)

pub under_all : {b n : ℕ} {x : List ℕ} → ((k : ℕ) → k < n → get_or x k 0 < b) → UnderIn b x 0 n
under_all {b} {n} {x} below = record { each = λ k l. subst (λ (i : ℕ). get_or x i 0 < b) (sym (zero-add k)) (below k l) }

-- a list with two of its numbers set, read at a third place
two_other : (l : List ℕ) (i j a b k : ℕ) → (k ≡ i → ⊥) → (k ≡ j → ⊥) → get_or (set (set l i a) j b) k 0 ≡ get_or l k 0
two_other l i j a b k hi hj = get_or-set_other (set l i a) j k b 0 hj ∙ get_or-set_other l i k a 0 hi

module _ {low high : ℕ → ℕ → ℕ} {from h : ℕ} {old : List ℕ} where
  module _ {new : List ℕ} {n a b : ℕ} (s : Paired low high from h old new n) (inside : n < h) (room : from + h + h ≤ length old)
      (is-low : a ≡ low (get_or new (from + n) 0) (get_or new (from + h + n) 0)) (is-high : b ≡ high (get_or new (from + n) 0) (get_or new (from + h + n) 0)) where
    pub paired_more : Paired low high from h old (set (set new (from + n) a) (from + h + n) b) (n + 1)
    paired_more =
        let kept_low = s.rest_first n (omega arith) inside in
        let kept_high = s.rest_second n (omega arith) inside in
        record {
          size = length-set (set new (from + n) a) (from + h + n) b ∙ length-set new (from + n) a ∙ s.size;
          first = λ k l. by_test (eqb k n)
              (λ t. let same = eqb-true k n t in
              ap (λ (i : ℕ). get_or (set (set new (from + n) a) (from + h + n) b) (from + i) 0) same
              ∙ get_or-set_other (set new (from + n) a) (from + h + n) (from + n) b 0 (λ e. omega arith)
              ∙ get_or-set_same new (from + n) a 0 (omega (arith, s.size))
              ∙ is-low ∙ ap₂ low kept_low kept_high
              ∙ ap (λ (i : ℕ). low (get_or old (from + i) 0) (get_or old (from + h + i) 0)) (sym same))
              (λ t. let other = eqb-false k n t in
              two_other new (from + n) (from + h + n) a b (from + k) (λ e. other (omega arith)) (λ e. omega arith) ∙ s.first k (omega arith));
          second = λ k l. by_test (eqb k n)
              (λ t. let same = eqb-true k n t in
              ap (λ (i : ℕ). get_or (set (set new (from + n) a) (from + h + n) b) (from + h + i) 0) same
              ∙ get_or-set_same (set new (from + n) a) (from + h + n) b 0 (omega (arith, s.size, length-set new (from + n) a))
              ∙ is-high ∙ ap₂ high kept_low kept_high
              ∙ ap (λ (i : ℕ). high (get_or old (from + i) 0) (get_or old (from + h + i) 0)) (sym same))
              (λ t. let other = eqb-false k n t in
              two_other new (from + n) (from + h + n) a b (from + h + k) (λ e. omega arith) (λ e. other (omega arith)) ∙ s.second k (omega arith));
          rest_first = λ k l m. two_other new (from + n) (from + h + n) a b (from + k) (λ e. omega arith) (λ e. omega arith) ∙ s.rest_first k (omega arith) m;
          rest_second = λ k l m.
              two_other new (from + n) (from + h + n) a b (from + h + k) (λ e. omega arith) (λ e. omega arith) ∙ s.rest_second k (omega arith) m;
          before = λ k l. two_other new (from + n) (from + h + n) a b k (λ e. omega arith) (λ e. omega arith) ∙ s.before k l;
          behind = λ k l. two_other new (from + n) (from + h + n) a b k (λ e. omega arith) (λ e. omega arith) ∙ s.behind k l;
        }

-- the pair that a turn reads, which no turn before has written: its numbers are below what all were below
pub pair_below : {low high : ℕ → ℕ → ℕ} {from h n b : ℕ} {old new : List ℕ} → Paired low high from h old new n → n < h → UnderIn b old from (h + h)
    → (get_or new (from + n) 0 < b) × (get_or new (from + h + n) 0 < b)
pair_below {from = from} {h = h} {n = n} {old = old} s more under =
    let at : from + (h + n) ≡ from + h + n = omega arith in (
      omega (arith, s.rest_first n (omega arith) more, under.each n (omega arith)),
      omega (arith, s.rest_second n (omega arith) more, under.each (h + n) (omega arith), ap (λ (i : ℕ). get_or old i 0) at),
    )

-- ---- a level: one node more
module _ {low high : ℕ → ℕ → ℕ → ℕ} {c : ℕ → ℕ} {h : ℕ} {old : List ℕ} where
  module _ {new next : List ℕ} {n : ℕ} (s : Level low high c h old new n) (t : Paired (low (c n)) (high (c n)) (n * (2 * h)) h new next h) where
    pub level_more : Level low high c h old next (n + 1)
    level_more =
        record {
          size = t.size ∙ s.size;
          first = λ b k l m. by_test (eqb b n)
              (λ e. let same = eqb-true b n e in
              ap (λ (i : ℕ). get_or next (i * (2 * h) + k) 0) same
              ∙ t.first k m
              ∙ ap₂ (low (c n)) (s.behind (n * (2 * h) + k) (omega arith)) (s.behind (n * (2 * h) + h + k) (omega arith))
              ∙ ap (λ (i : ℕ). low (c i) (get_or old (i * (2 * h) + k) 0) (get_or old (i * (2 * h) + h + k) 0)) (sym same))
              (λ e. let other = eqb-false b n e in
              let below = mul-le-mul_right {m = b + 1} {n = n} (2 * h) (omega arith) in
              t.before (b * (2 * h) + k) (omega (arith, below, add-mul b 1 (2 * h))) ∙ s.first b k (omega arith) m);
          second = λ b k l m. by_test (eqb b n)
              (λ e. let same = eqb-true b n e in
              ap (λ (i : ℕ). get_or next (i * (2 * h) + h + k) 0) same
              ∙ t.second k m
              ∙ ap₂ (high (c n)) (s.behind (n * (2 * h) + k) (omega arith)) (s.behind (n * (2 * h) + h + k) (omega arith))
              ∙ ap (λ (i : ℕ). high (c i) (get_or old (i * (2 * h) + k) 0) (get_or old (i * (2 * h) + h + k) 0)) (sym same))
              (λ e. let other = eqb-false b n e in
              let below = mul-le-mul_right {m = b + 1} {n = n} (2 * h) (omega arith) in
              t.before (b * (2 * h) + h + k) (omega (arith, below, add-mul b 1 (2 * h))) ∙ s.second b k (omega arith) m);
          behind = λ k l.
              t.behind k (omega (arith, add-mul n 1 (2 * h))) ∙ s.behind k (omega (arith, add-mul n 1 (2 * h)));
        }

-- the blocks up to a node's end are among all
pub node_room : (h n nodes : ℕ) → n < nodes → n * (2 * h) + (h + h) ≤ nodes * (2 * h)
node_room h n nodes l = omega (arith, mul-le-mul_right {m = n + 1} {n = nodes} (2 * h) (omega arith), add-mul n 1 (2 * h))

-- the block of a turn's node, which no turn before has written: there is room for it, and its numbers are as small as all were
pub node_asks : {low high : ℕ → ℕ → ℕ → ℕ} {c : ℕ → ℕ} {a nodes h b : ℕ} {old new : List ℕ} → Level low high c h old new b → b < nodes
    → (nodes * (2 * h) ≤ length old) × (length old ≤ max_n) × UnderIn a old 0 (nodes * (2 * h))
    → (b * (2 * h) + h + h ≤ length new) × (length new ≤ max_n) × UnderIn a new (b * (2 * h)) (h + h)
node_asks {nodes = nodes} {h = h} {b = b} s more (room, most, under) =
    let end = node_room h b nodes more in (
      omega (arith, end, s.size),
      omega (arith, s.size),
      record { each = λ k l. omega (arith, s.behind (b * (2 * h) + k) (omega arith), under_at under (b * (2 * h) + k) (omega (arith, end))) },
    )

-- ---- thirds: one triple more
module _ {q c d h : ℕ} {old : List ℕ} where
  module _ {new : List ℕ} {n : ℕ} (v w z : ℕ) (s : Tripled q c d h old new n) (inside : n < h) (room : h + h + h ≤ length old)
      (is-first : v ≡ third_low (get_or new n 0) (get_or new (h + n) 0) (get_or new (h + h + n) 0))
      (is-second : w ≡ third_high q c d (get_or new n 0) (get_or new (h + n) 0) (get_or new (h + h + n) 0))
      (is-third : z ≡ third_high q d c (get_or new n 0) (get_or new (h + n) 0) (get_or new (h + h + n) 0)) where
    abbrev next : List ℕ
    next = set (set (set new n v) (h + n) w) (h + h + n) z

    -- a place that the turn does not write
    other : (k : ℕ) → (k ≡ n → ⊥) → (k ≡ h + n → ⊥) → (k ≡ h + h + n → ⊥) → get_or next k 0 ≡ get_or new k 0
    other k e f g = get_or-set_other (set (set new n v) (h + n) w) (h + h + n) k z 0 g ∙ two_other new n (h + n) v w k e f

    -- what the turn reads is as it was
    kept : (f : ℕ → ℕ → ℕ → ℕ) → f (get_or new n 0) (get_or new (h + n) 0) (get_or new (h + h + n) 0) ≡ f (get_or old n 0) (get_or old (h + n) 0) (get_or old (h + h + n) 0)
    kept f = rw (s.rest_first n (omega arith) inside, s.rest_second n (omega arith) inside, s.rest_third n (omega arith) inside) refl

    pub tripled_more : Tripled q c d h old next (n + 1)
    tripled_more =
        let size1 : length (set new n v) ≡ length old = length-set new n v ∙ s.size in
        let size2 : length (set (set new n v) (h + n) w) ≡ length old = length-set (set new n v) (h + n) w ∙ size1 in
        record {
          size = length-set (set (set new n v) (h + n) w) (h + h + n) z ∙ size2;
          first = λ k l. by_test (eqb k n)
              (λ t. let same = eqb-true k n t in
              ap (λ (i : ℕ). get_or next i 0) same
              ∙ get_or-set_other (set (set new n v) (h + n) w) (h + h + n) n z 0 (λ e. omega arith)
              ∙ get_or-set_other (set new n v) (h + n) n w 0 (λ e. omega arith)
              ∙ get_or-set_same new n v 0 (omega (arith, s.size))
              ∙ is-first ∙ kept third_low
              ∙ ap (λ (i : ℕ). third_low (get_or old i 0) (get_or old (h + i) 0) (get_or old (h + h + i) 0)) (sym same))
              (λ t. let less = eqb-false k n t in other k less (λ e. omega arith) (λ e. omega arith) ∙ s.first k (omega arith));
          second = λ k l. by_test (eqb k n)
              (λ t. let same = eqb-true k n t in
              ap (λ (i : ℕ). get_or next (h + i) 0) same
              ∙ get_or-set_other (set (set new n v) (h + n) w) (h + h + n) (h + n) z 0 (λ e. omega arith)
              ∙ get_or-set_same (set new n v) (h + n) w 0 (omega (arith, size1))
              ∙ is-second ∙ kept (third_high q c d)
              ∙ ap (λ (i : ℕ). third_high q c d (get_or old i 0) (get_or old (h + i) 0) (get_or old (h + h + i) 0)) (sym same))
              (λ t. let less = eqb-false k n t in other (h + k) (λ e. omega arith) (λ e. less (omega arith)) (λ e. omega arith) ∙ s.second k (omega arith));
          third = λ k l. by_test (eqb k n)
              (λ t. let same = eqb-true k n t in
              ap (λ (i : ℕ). get_or next (h + h + i) 0) same
              ∙ get_or-set_same (set (set new n v) (h + n) w) (h + h + n) z 0 (omega (arith, size2))
              ∙ is-third ∙ kept (third_high q d c)
              ∙ ap (λ (i : ℕ). third_high q d c (get_or old i 0) (get_or old (h + i) 0) (get_or old (h + h + i) 0)) (sym same))
              (λ t. let less = eqb-false k n t in
              other (h + h + k) (λ e. omega arith) (λ e. omega arith) (λ e. less (omega arith)) ∙ s.third k (omega arith));
          rest_first = λ k l m. other k (λ e. omega arith) (λ e. omega arith) (λ e. omega arith) ∙ s.rest_first k (omega arith) m;
          rest_second = λ k l m. other (h + k) (λ e. omega arith) (λ e. omega arith) (λ e. omega arith) ∙ s.rest_second k (omega arith) m;
          rest_third = λ k l m. other (h + h + k) (λ e. omega arith) (λ e. omega arith) (λ e. omega arith) ∙ s.rest_third k (omega arith) m;
        }

-- the triple that a turn reads, likewise
pub triple_below : {q c d h n b : ℕ} {old new : List ℕ} → Tripled q c d h old new n → n < h → UnderIn b old 0 (h + h + h)
    → (get_or new n 0 < b) × (get_or new (h + n) 0 < b) × (get_or new (h + h + n) 0 < b)
triple_below {h = h} {n = n} s more under = (
  omega (arith, s.rest_first n (omega arith) more, under_at under n (omega arith)),
  omega (arith, s.rest_second n (omega arith) more, under_at under (h + n) (omega arith)),
  omega (arith, s.rest_third n (omega arith) more, under_at under (h + h + n) (omega arith)),
)
