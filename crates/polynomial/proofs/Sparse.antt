-- The absolute values of a challenge sum to b. So its product with a ternary key is within b, and with a mask within k the point is within k + b.
-- Assumes nothing.
use mathlib.Core.Path.{◌≡◌, subst, ◌∙◌}
use mathlib.Core.List.{List}
use Prim.Native.Nat.{ℕ, ◌+◌}
use lib.Dec.{T}
use lib.IntN.{ℤ}
use Rattle.algebra.specs.Integer.{within}
use Rattle.parameters.specs.declared.Params.{Params}
use Rattle.polynomial.specs.Polynomial.{star, z_of, ternary, one_norm}
use Rattle.polynomial.specs.Sparse.{Sparse}
use Rattle.polynomial.proofs.Norm.{norm_nonzeros}
use Rattle.polynomial.proofs.Bound.{within-star, z_within}

module _ {p : Params} {c : List ℤ} (challenge : Sparse p c) where
  sum_is_b : one_norm c ≡ p.b
  sum_is_b = norm_nonzeros c challenge.small ∙ challenge.exact

  pub product_within : (f : List ℤ) → T (ternary f) → T (within p.b (star f c))
  product_within f t = subst (λ (b : ℕ). T (within b (star f c))) sum_is_b (within-star f c t)

  pub point_within : (k : ℕ) (f y : List ℤ) → T (ternary f) → T (within k y) → T (within (k + p.b) (z_of f c y))
  point_within k f y t u = subst (λ (b : ℕ). T (within (k + b) (z_of f c y))) sum_is_b (z_within k f c y t u)
