-- The loops of the sums for a challenge, one turn at a time: the powers twice, a row added, the rows of all coefficients.
-- Assumes nothing.
use mathlib.Core.Path.{◌≡◌, refl, sym, ap, ap₂, ◌∙◌}
use mathlib.Core.Bool.{false}
use mathlib.Core.List.{List, map}
use mathlib.Core.Logic.{⊎_elim}
use Prim.Native.Nat.{ℕ, ◌+◌, ◌-◌, ◌*◌, ◌^◌, ◌<◌, ◌≤◌}
use native.Mathlib.Nat.{mod-eq_of_lt, mul-le-mul, le_of_lt}
use native.Mathlib.Numerals.{add-one}
use native.Mathlib.Omega.{arith}
use borrow.Author.Tests.{ltb-false}
use lib.Dec.{T, leb, le→leb}
use lib.IntN.{ℤ, pos, negsuc, ◌+ℤ◌, ◌*ℤ◌, nat_abs}
use lib.Signed.{lt_z}
use lib.ListN.{length, get_or, take, drop, set, length-set, length-map, length-take, take-append-drop, get_or-map}
use lib.Seq.{take_all, get_or-take, get_or-drop}
use mir.Facts.{to_z-of_z, to_z_pos}
use mir.Syntax.{w8, w32}
use mir.Val.{SFits, to_z, of_z}
use Rattle.algebra.specs.All.{are_below}
use Rattle.algebra.specs.Integer.{within}
use Rattle.algebra.proofs.Absolute.{abs-add, abs-mul}
use Rattle.algebra.proofs.All.{all_from, all-append, all-drop, below_at}
use Rattle.algebra.proofs.Remainder.{round_once}
use Rattle.algebra.proofs.Signed.{fits_signed}
use Rattle.algebra.proofs.Test.{and_left, true_holds, lt_or_le}
use Rattle.parameters.specs.Limits.{max_n}
use Rattle.polynomial.specs.Polynomial.{coefficient, add, scale, ternary}
use Rattle.polynomial.proofs.Bound.{within-coefficient}
use Rattle.polynomial.proofs.Linear.{length-scale, length-add, coefficient-add, coefficient-scale, add-nil, added_first, added_suc}
use Rattle.transform.specs.Asks as asks
use Rattle.transform.specs.Convolution.{entry}
use Rattle.transform.specs.UpFrom.{up_from}
use Rattle.transform.proofs.UpFrom.{from_zero_at}
use Rattle.split.specs.Sparse.{Twice, sparse_sum}

-- ---- the powers in the order of a table, twice: a list that has them backwards, backwards and twice
module _ (powers order : List ℕ) where
  abbrev pub powers_backwards : List ℕ
  powers_backwards = map (λ (j : ℕ). get_or powers (get_or order (length order - 1 - j) 0) 0) (up_from 0 (length order))

  pub backwards_at : (i : ℕ) → i < length order → get_or powers_backwards (length order - 1 - i) 0 ≡ get_or powers (get_or order i 0) 0
  backwards_at i h =
      let e : length order - 1 - (length order - 1 - i) ≡ i = omega arith in
      from_zero_at (λ (j : ℕ). get_or powers (get_or order (length order - 1 - j) 0) 0) (length order) (length order - 1 - i) 0 (omega arith)
      ∙ ap (λ (j : ℕ). get_or powers (get_or order j 0) 0) e

  pub twice_all : {t : List ℕ} → asks.Twice (length order) powers_backwards t (length order) → Twice powers order t
  twice_all {t} s =
      record {
        each = λ m h. ⊎_elim
            (λ (b : m < length order).
            s.front m b ∙ backwards_at m b ∙ ap (λ (j : ℕ). get_or powers (get_or order j 0) 0) (sym (mod-eq_of_lt b)))
            (λ (b : length order ≤ m).
            let e : m ≡ length order + (m - length order) = omega arith in
            let l : m - length order < length order = omega arith in
            ap (λ (j : ℕ). get_or t j 0) e ∙ s.behind (m - length order) l ∙ backwards_at (m - length order) l
            ∙ ap (λ (j : ℕ). get_or powers (get_or order j 0) 0) (round_once m b (omega arith)))
            (lt_or_le m (length order));
      }

-- ---- a row
-- l is z with a times the first i numbers of a row added
pub record Added (a : ℤ) (z : List ℤ) (row : List ℕ) (l : List ℤ) (i : ℕ) : Type 0 where
  pub whole : length row ≡ length z
  pub size : length l ≡ length z
  pub below : i ≤ length row
  pub value : l ≡ add z (scale a (take i (map pos row)))

module _ {a : ℤ} {z : List ℤ} {row : List ℕ} where
  pub added_none : length row ≡ length z → Added a z row z 0
  added_none e = record { whole = e; size = refl; below = omega arith; value = sym (add-nil z) }

  module _ {l : List ℤ} {i : ℕ} (s : Added a z row l i) where
    -- what a turn reads is as it was
    added_kept : i < length row → coefficient l i ≡ coefficient z i
    added_kept h = ap (λ (u : List ℤ). coefficient u i) s.value ∙ added_first a z (map pos row) i (omega (arith, s.whole))

    added_more : {x : ℤ} → i < length row → x ≡ coefficient l i +ℤ a *ℤ pos (get_or row i 0) → Added a z row (set l i x) (i + 1)
    added_more {x} h e =
        let read = e ∙ ap₂ (λ (y r : ℤ). y +ℤ a *ℤ r) (added_kept h) (sym (get_or-map pos row i 0)) in
        let inside : i < length z = omega (arith, s.whole) in
        record {
          whole = s.whole;
          size = length-set l i x ∙ s.size;
          below = omega arith;
          value = ap₂ (λ (u : List ℤ) (y : ℤ). set u i y) s.value read ∙ added_suc a z (map pos row) i inside (omega (arith, length-map row pos))
              ∙ ap (λ (k : ℕ). add z (scale a (take k (map pos row)))) (sym (add-one i));
        }

    -- the number that a turn adds to, and what it adds, where the sign is 1, 0 or -1: the sum as the machine works it out
    module _ (more : i < length row) (small : T (within (max_n * 2 ^ 20) z)) (low : T (are_below (2 ^ 20) row)) (sign : nat_abs a ≤ 1) where
      held : nat_abs (coefficient l i) ≤ max_n * 2 ^ 20
      held = rw (added_kept more) (within-coefficient (max_n * 2 ^ 20) z i small)

      number_small : get_or row i 0 < 2 ^ 20
      number_small = below_at (2 ^ 20) row low i more

      product_small : nat_abs (a *ℤ pos (get_or row i 0)) ≤ 2 ^ 20
      product_small = omega (arith, abs-mul a (pos (get_or row i 0)), mul-le-mul sign (le_of_lt number_small))

      sum_small : nat_abs (coefficient l i +ℤ a *ℤ pos (get_or row i 0)) ≤ (max_n + 1) * 2 ^ 20
      sum_small = omega (arith, abs-add (coefficient l i) (a *ℤ pos (get_or row i 0)), held, product_small)

      abbrev turned : ℤ
      turned = to_z w32 (of_z w32 (coefficient l i)) +ℤ to_z w32 (of_z w32 (a *ℤ to_z w32 (get_or row i 0)))

      turned_is : turned ≡ coefficient l i +ℤ a *ℤ pos (get_or row i 0)
      turned_is =
          ap₂ ◌+ℤ◌ (to_z-of_z (fits_signed w32 (coefficient l i) (omega (arith, held))))
          (ap (λ (y : ℤ). to_z w32 (of_z w32 (a *ℤ y))) (to_z_pos w32 (omega (arith, number_small)))
          ∙ to_z-of_z (fits_signed w32 (a *ℤ pos (get_or row i 0)) (omega (arith, product_small))))

      pub turned_fits : SFits w32 turned
      turned_fits = rw turned_is (fits_signed w32 (coefficient l i +ℤ a *ℤ pos (get_or row i 0)) (omega (arith, sum_small)))

      pub turned_more : Added a z row (set l i (to_z w32 (of_z w32 turned))) (i + 1)
      turned_more = added_more more (to_z-of_z turned_fits ∙ turned_is)

    pub added_all : length row ≤ i → l ≡ add z (scale a (map pos row))
    added_all h = s.value ∙ ap (λ (u : List ℤ). add z (scale a u)) (take_all i (map pos row) (omega (arith, length-map row pos)))

-- ---- a number of -1, 0 and 1, by its sign
pub is_zero : (a : ℤ) → lt_z (pos 0) a ≡ false → lt_z a (pos 0) ≡ false → a ≡ pos 0
is_zero (pos n) s t = ap pos (omega (arith, ltb-false 0 n s))
is_zero (negsuc n) s t = absurd (true_holds (sym t))

-- ---- the row of n numbers that starts at place m
abbrev pub row_at : List ℕ → ℕ → ℕ → List ℕ
row_at t m n = take n (drop m t)

pub row_below : (b : ℕ) (t : List ℕ) (m n : ℕ) → T (are_below b t) → T (are_below b (row_at t m n))
row_below b t m n h =
    let u = drop m t in
    and_left (are_below b (take n u)) (are_below b (drop n u))
    (rw (← all-append _ (take n u) (drop n u), take-append-drop n u) (all-drop _ m t h))

-- a coefficient as the machine reads it
pub coefficient_read : (f : List ℤ) (i : ℕ) → T (ternary f) → to_z w8 (of_z w8 (coefficient f i)) ≡ coefficient f i
coefficient_read f i small = to_z-of_z (fits_signed w8 (coefficient f i) (omega (arith, within-coefficient 1 f i small)))

-- ---- the sums of the first m coefficients in the order of a table
pub record SumsOf (f : List ℤ) (order t : List ℕ) (l : List ℤ) (m : ℕ) : Type 0 where
  pub below : m ≤ length order
  pub size : length l ≡ length order
  pub each : (v : ℕ) → v < length order → coefficient l v ≡ sparse_sum f order t m v
  pub room : (v : ℕ) → v < length order → nat_abs (coefficient l v) ≤ m * 2 ^ 20

module _ {f : List ℤ} {order t : List ℕ} where
  module _ {l : List ℤ} {m : ℕ} (s : SumsOf f order t l m) where
    pub sums_within : length order ≤ max_n → T (within (max_n * 2 ^ 20) l)
    sums_within h =
        all_from (λ (a : ℤ). leb (nat_abs a) (max_n * 2 ^ 20)) l (pos 0)
        (λ v b. le→leb (nat_abs (coefficient l v)) (max_n * 2 ^ 20) (omega (arith, s.room v (omega (arith, s.size)), s.below)))

    -- the row of one coefficient more
    module _ {new : List ℤ} (h : m < length order) (e : new ≡ add l (scale (coefficient f (get_or order m 0)) (map pos (row_at t m (length order))))) where
      term_at : (v : ℕ) → v < length order → coefficient new v ≡ coefficient l v +ℤ coefficient f (get_or order m 0) *ℤ entry t (m + v)
      term_at v b =
          let a = coefficient f (get_or order m 0) in
          let row = row_at t m (length order) in
          ap (λ (u : List ℤ). coefficient u v) e
          ∙ coefficient-add l (scale a (map pos row)) v
          ∙ ap (λ (x : ℤ). coefficient l v +ℤ x) (coefficient-scale a (map pos row) v)
          ∙ ap (λ (x : ℤ). coefficient l v +ℤ a *ℤ x) (get_or-map pos row v 0)
          ∙ ap (λ (x : ℕ). coefficient l v +ℤ a *ℤ pos x) (get_or-take (length order) (drop m t) v 0 b ∙ get_or-drop m t v 0)

      pub sums_more : T (ternary f) → T (are_below (2 ^ 20) t) → length t ≡ 2 * length order → SumsOf f order t new (m + 1)
      sums_more small under long =
          let a = coefficient f (get_or order m 0) in
          let row = row_at t m (length order) in
          record {
            below = omega arith;
            size = ap length e ∙ omega (
              arith,
              length-add l (scale a (map pos row)),
              length-scale a (map pos row),
              length-map row pos,
              length-take (length order) (drop m t),
              s.size,
            );
            each = λ v b.
                term_at v b
                ∙ ap (λ (x : ℤ). x +ℤ a *ℤ entry t (m + v)) (s.each v b)
                ∙ ap (λ (k : ℕ). sparse_sum f order t k v) (sym (add-one m));
            room = λ v b. omega (
              arith,
              ap nat_abs (term_at v b),
              abs-add (coefficient l v) (a *ℤ entry t (m + v)),
              abs-mul a (entry t (m + v)),
              mul-le-mul (within-coefficient 1 f (get_or order m 0) small) (le_of_lt (below_at (2 ^ 20) t under (m + v) (omega arith))),
              s.room v b,
            );
          }
