-- A convolution as a list; and its sums, over one table and another that stands backwards, twice: one turn of each loop, and what the sums are.
-- Assumes nothing.
use mathlib.Core.Path.{◌≡◌, refl, sym, ap, ap₂, ◌∙◌}
use mathlib.Core.List.{List}
use mathlib.Core.Logic.{⊎_elim}
use Prim.Native.Nat.{ℕ, ◌+◌, ◌-◌, ◌*◌, ◌%◌, ◌<◌, ◌≤◌}
use native.Mathlib.Nat.{mod-eq_of_lt}
use native.Mathlib.Numerals.{add-one}
use native.Mathlib.Omega.{arith}
use borrow.Author.Tests.{eqb-true, eqb-false}
use lib.Dec.{T, eqb, ltb, lt→ltb}
use lib.IntN.{ℤ, pos, ◌+ℤ◌}
use lib.ListN.{length, get_or, set, length-set}
use lib.Seq.{get_or-set_same, get_or-set_other}
use Rattle.algebra.specs.All.{are_below}
use Rattle.algebra.specs.Integer.{residue, sum}
use Rattle.algebra.proofs.Congruence.{residue_below}
use Rattle.algebra.proofs.Remainder.{round_once}
use Rattle.algebra.proofs.Sum.{sum_same}
use Rattle.algebra.proofs.Test.{by_test, lt_or_le}
use Rattle.parameters.specs.Limits.{max_n}
use Rattle.transform.specs.Asks.{dot_at, Twice}
use Rattle.transform.specs.Convolution.{cyclic, entry, convolution}
use Rattle.transform.proofs.UpFrom.{up_map-length, up_map-all, from_zero_at}

-- ---- the list
module _ (q : ℕ) (u w : List ℕ) where
  pub convolution-length : length (convolution q u w) ≡ length u
  unfolding convolution
  convolution-length = up_map-length _ 0 (length u)

  pub convolution_at : (m : ℕ) → m < length u → get_or (convolution q u w) m 0 ≡ residue (cyclic (length u) (entry u) (entry w) m) q
  unfolding convolution
  convolution_at m h = from_zero_at (λ (m : ℕ). residue (cyclic (length u) (entry u) (entry w) m) q) (length u) m 0 h

  pub convolution_below : 0 < q → T (are_below q (convolution q u w))
  unfolding convolution
  convolution_below positive =
      up_map-all (λ (m : ℕ). residue (cyclic (length u) (entry u) (entry w) m) q) (λ (v : ℕ). ltb v q) 0 (length u)
      (λ m. lt→ltb _ q (residue_below positive (cyclic (length u) (entry u) (entry w) m)))

-- ---- the sum of products
pub dot_none : (u v : List ℕ) (k : ℕ) → pos 0 ≡ dot_at u v k 0
unfolding dot_at
dot_none u v k = refl

pub dot_more : (u v : List ℕ) (k i : ℕ) {acc x : ℕ} → pos acc ≡ dot_at u v k i → x ≡ get_or u i 0 * get_or v (k + i) 0 → pos (acc + x) ≡ dot_at u v k (i + 1)
unfolding dot_at
dot_more u v k i e f =
    ap₂ (λ (s : ℤ) (x : ℕ). s +ℤ pos x) e f
    ∙ ap (sum (λ (i : ℕ). pos (get_or u i 0 * get_or v (k + i) 0))) (sym (add-one i))

-- ---- the table that stands backwards, twice
pub twice_none : (n : ℕ) (w v : List ℕ) → length v ≡ 2 * max_n → Twice n w v 0
twice_none n w v room = record { room = room; below = omega arith; front = λ k h. absurd (omega arith); behind = λ k h. absurd (omega arith) }

module _ {n : ℕ} {w v : List ℕ} {i : ℕ} (s : Twice n w v i) where
  pub twice_more : {x : ℕ} → i < n → n ≤ max_n → x ≡ get_or w (n - 1 - i) 0 → Twice n w (set (set v i x) (n + i) x) (i + 1)
  twice_more {x} h l e =
      let once = set v i x in
      let room : length once ≡ 2 * max_n = length-set v i x ∙ s.room in
      record {
        room = length-set once (n + i) x ∙ room;
        below = omega arith;
        front = λ k b. get_or-set_other once (n + i) k x 0 (λ q. omega arith) ∙ by_test (eqb k i)
            (λ t. let same = eqb-true k i t in
            ap (λ (j : ℕ). get_or once j 0) same ∙ get_or-set_same v i x 0 (omega (arith, s.room)) ∙ e ∙ ap (λ (j : ℕ). get_or w (n - 1 - j) 0) (sym same))
            (λ t. let other = eqb-false k i t in get_or-set_other v i k x 0 other ∙ s.front k (omega arith));
        behind = λ k b. by_test (eqb k i)
            (λ t. let same = eqb-true k i t in
            ap (λ (j : ℕ). get_or (set once (n + i) x) (n + j) 0) same
            ∙ get_or-set_same once (n + i) x 0 (omega (arith, room)) ∙ e ∙ ap (λ (j : ℕ). get_or w (n - 1 - j) 0) (sym same))
            (λ t. let other = eqb-false k i t in
            get_or-set_other once (n + i) (n + k) x 0 (λ q. other (omega arith))
            ∙ get_or-set_other v i (n + k) x 0 (λ q. omega arith) ∙ s.behind k (omega arith));
      }

module _ {n : ℕ} {w v : List ℕ} (s : Twice n w v n) where
  -- from place n - 1 - m on it has what the convolution at m reads
  reads : (m i : ℕ) → m < n → i < n → get_or v (n - 1 - m + i) 0 ≡ get_or w ((m + (n - i)) % n) 0
  reads m i h l =
      ⊎_elim
      (λ (b : m < i).
      let at : n - 1 - m + i ≡ n + (i - m - 1) = omega arith in
      let from : n - 1 - (i - m - 1) ≡ m + (n - i) = omega arith in
      ap (λ (k : ℕ). get_or v k 0) at
      ∙ s.behind (i - m - 1) (omega arith)
      ∙ ap (λ (k : ℕ). get_or w k 0) (from ∙ sym (mod-eq_of_lt (omega arith))))
      (λ (b : i ≤ m).
      let from : n - 1 - (n - 1 - m + i) ≡ m + (n - i) - n = omega arith in
      s.front (n - 1 - m + i) (omega arith) ∙ ap (λ (k : ℕ). get_or w k 0) (from ∙ round_once (m + (n - i)) (omega arith) (omega arith)))
      (lt_or_le m i)

  pub dot_cyclic : (u : List ℕ) (m : ℕ) → m < n → dot_at u v (n - 1 - m) n ≡ cyclic n (entry u) (entry w) m
  unfolding dot_at
  dot_cyclic u m h =
      sum_same (λ (i : ℕ). pos (get_or u i 0 * get_or v (n - 1 - m + i) 0)) (λ (i : ℕ). pos (get_or u i 0 * get_or w ((m + (n - i)) % n) 0)) n
      (λ i l. ap (λ (x : ℕ). pos (get_or u i 0 * x)) (reads m i h l))
