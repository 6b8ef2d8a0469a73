-- Document 01, "Hash and challenge", and request #104: what a challenge is, whether it is drawn or read from its encoding.
-- Assumes nothing.
use Rattle.std.specs.Prelude.{◌≡◌, Bool, true, false, not, List, ℕ, zero, suc, T, ℤ, pos, negsuc, length}
use Rattle.algebra.specs.Count.{count}
use Rattle.parameters.specs.declared.Params.{Params}
use Rattle.polynomial.specs.Polynomial.{ternary}

-- a coefficient is 0
abbrev pub is_zero : ℤ → Bool
is_zero (pos zero) = true
is_zero (pos (suc a)) = false
is_zero (negsuc a) = false

-- how many coefficients are 0, and how many are not
abbrev pub zeros : List ℤ → ℕ
zeros = count is_zero

abbrev pub nonzeros : List ℤ → ℕ
nonzeros = count (λ (a : ℤ). not (is_zero a))

-- N coefficients, each -1, 0 or 1, and exactly b of them not 0
pub record Sparse (p : Params) (c : List ℤ) : Type 0 where
  pub size : length c ≡ p.n
  pub small : T (ternary c)
  pub exact : nonzeros c ≡ p.b
