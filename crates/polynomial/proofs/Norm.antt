-- The coefficients of a ternary polynomial: those that are not 0 are 1 or -1, so their number is the 1-norm, and at most the number of all.
-- Assumes nothing.
use mathlib.Core.Path.{◌≡◌, refl, ap, ◌∙◌}
use mathlib.Core.Bool.{not, cond}
use mathlib.Core.List.{List, [], ◌∷◌}
use mathlib.Core.Logic.{◌⊎◌, inl, inr}
use Prim.Native.Nat.{ℕ, zero, suc, ◌+◌, ◌≤◌}
use native.Mathlib.Omega.{arith}
use lib.Dec.{T, leb, leb→le}
use lib.IntN.{ℤ, pos, negsuc, nat_abs}
use lib.ListN.{length}
use Rattle.algebra.proofs.Count.{count_both}
use Rattle.algebra.proofs.Test.{and_left, and_right}
use Rattle.polynomial.specs.Polynomial.{ternary, one_norm}
use Rattle.polynomial.specs.Sparse.{is_zero, zeros, nonzeros}

pub zeros-nonzeros : (c : List ℤ) → zeros c + nonzeros c ≡ length c
zeros-nonzeros = count_both is_zero

-- a coefficient -1, 0 or 1 that is not 0
pub one_or_minus_one : (a : ℤ) → nat_abs a ≤ 1 → ¬ (a ≡ pos 0) → (a ≡ pos 1) ⊎ (a ≡ negsuc 0)
one_or_minus_one (pos zero) h n = absurd (n refl)
one_or_minus_one (pos (suc a)) h n = inl (ap pos (omega arith))
one_or_minus_one (negsuc a) h n = inr (ap negsuc (omega arith))

-- a coefficient -1, 0 or 1 adds as much to the sum as to the count
counted : (a : ℤ) (n : ℕ) → nat_abs a ≤ 1 → nat_abs a + n ≡ cond (not (is_zero a)) (suc n) n
counted (pos zero) n h = omega arith
counted (pos (suc a)) n h = omega arith
counted (negsuc a) n h = omega arith

pub norm_nonzeros : (c : List ℤ) → T (ternary c) → one_norm c ≡ nonzeros c
norm_nonzeros [] t = refl
norm_nonzeros (a ∷ c) t =
    ap (λ (n : ℕ). nat_abs a + n) (norm_nonzeros c (and_right (leb (nat_abs a) 1) (ternary c) t))
    ∙ counted a (nonzeros c) (leb→le (nat_abs a) 1 (and_left (leb (nat_abs a) 1) (ternary c) t))

pub norm_length : (c : List ℤ) → T (ternary c) → one_norm c ≤ length c
norm_length c t = omega (arith, norm_nonzeros c t, zeros-nonzeros c)
