-- Request #103: the test of a range ends at `first_outside` and nowhere else, and that is the number of coefficients exactly where all are in range.
-- Assumes nothing.
use mathlib.Core.Path.{◌≡◌, refl, sym, ◌∙◌}
use mathlib.Core.Bool.{Bool}
use mathlib.Core.List.{List, [], ◌∷◌}
use mathlib.Core.Logic.{inl, inr, ⊎_elim}
use Prim.Native.Nat.{ℕ}
use native.Mathlib.Numerals.{one-add}
use native.Mathlib.Omega.{arith}
use lib.Dec.{leb, eqb, eqb-zero-suc, eqb-suc-suc}
use borrow.Author.Tests.{leb-true, leb-false, le-leb, lt-leb}
use lib.IntN.{ℤ, pos, nat_abs}
use lib.ListN.{length}
use Rattle.std.specs.List.{prefix_len}
use Rattle.std.proofs.lemmas.List.Sums.{prefix_len-le-length, prefix_len_passes, prefix_len_stops, prefix_len_is}
use Rattle.algebra.proofs.Test.{by_test, lt_or_le}
use Rattle.algebra.specs.All.{all}
use Rattle.algebra.specs.Integer.{within}
use Rattle.polynomial.specs.Polynomial.{coefficient}
use Rattle.polynomial.specs.FirstOutside.{first_outside, EndsAt}

-- the elements in front that pass a test are all exactly where all pass it
pub prefix_len-all : {A : Type 0} (test : A → Bool) (z : List A) → eqb (prefix_len test z) (length z) ≡ all test z
prefix_len-all test [] = refl
prefix_len-all test (a ∷ z) = by_test (test a)
    (λ t. rw (t, one-add) (eqb-suc-suc (prefix_len test z) (length z) ∙ prefix_len-all test z))
    (λ f. rw f (eqb-zero-suc (length z)))

module _ (k : ℕ) where
  -- every coefficient before it is inside, and the one at it is outside, or it is the number of coefficients
  pub ends_at_first : (z : List ℤ) → EndsAt k z (first_outside k z)
  ends_at_first z =
      record {
        before = λ j h. leb-true (nat_abs (coefficient z j)) k (prefix_len_passes (λ (a : ℤ). leb (nat_abs a) k) z j (pos 0) h);
        here = ⊎_elim (λ l. inl (l, leb-false (nat_abs (coefficient z (first_outside k z))) k (prefix_len_stops (λ (a : ℤ). leb (nat_abs a) k) z (pos 0) l)))
            (λ h. inr (omega (arith, h, prefix_len-le-length (λ (a : ℤ). leb (nat_abs a) k) z)))
            (lt_or_le (first_outside k z) (length z));
      }

  -- no other index is so
  pub ends_nowhere_else : (z : List ℤ) (i : ℕ) → EndsAt k z i → i ≡ first_outside k z
  ends_nowhere_else z i e =
      sym
      (prefix_len_is (λ (a : ℤ). leb (nat_abs a) k) z i (pos 0) (⊎_elim (λ l. omega (arith, l.0)) (λ r. omega (arith, r)) e.here)
      (λ j h. le-leb (nat_abs (coefficient z j)) k (e.before j h))
      (λ l. ⊎_elim (λ o. lt-leb (nat_abs (coefficient z i)) k o.1) (λ r. absurd (omega (arith, l, r))) e.here))

  -- none is outside exactly where all are in -k..k
  pub first_outside-within : (z : List ℤ) → eqb (first_outside k z) (length z) ≡ within k z
  first_outside-within = prefix_len-all (λ (a : ℤ). leb (nat_abs a) k)
