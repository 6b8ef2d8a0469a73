-- The paper's formula for the product ⋆: coefficient k of f ⋆ c is the sum over i of c_i f_((k - i) mod N).
-- Assumes nothing.
use mathlib.Core.Path.{◌≡◌, refl, sym, ap, ap₂, ◌∙◌}
use mathlib.Core.List.{List, [], ◌∷◌}
use Prim.Native.Nat.{ℕ, suc, ◌+◌, ◌-◌, ◌%◌, ◌≤◌, ◌<◌}
use native.Mathlib.Nat.{add-zero}
use native.Mathlib.Omega.{arith}
use lib.IntN.{ℤ, ◌+ℤ◌, ◌*ℤ◌}
use lib.ListN.{length}
use Rattle.algebra.specs.Integer.{sum}
use Rattle.algebra.proofs.Sum.{sum_same, sum_front}
use Rattle.polynomial.specs.Polynomial.{coefficient, scale, star}
use Rattle.polynomial.specs.Rotation.{rotations}
use Rattle.polynomial.proofs.Linear.{coefficient-add, coefficient-scale}
use Rattle.polynomial.proofs.Rotation.{coefficient-rotations}

module _ (f : List ℤ) (n k : ℕ) (size : length f ≡ n) (below : k < n) where
  -- the summands, where c's first coefficient counts as number m
  summand_from : ℕ → List ℤ → ℕ → ℤ
  summand_from m c i = coefficient c i *ℤ coefficient f ((k + (n - (m + i))) % n)

  star_from : (m : ℕ) (c : List ℤ) → m + length c ≤ n → coefficient (star (rotations m f) c) k ≡ sum (summand_from m c) (length c)
  unfolding summand_from
  star_from m [] h = refl
  star_from m (a ∷ c) h =
      coefficient-add (scale a (rotations m f)) (star (rotations (suc m) f) c) k
      ∙ ap₂ ◌+ℤ◌
      (coefficient-scale a (rotations m f) k
      ∙ ap (λ (u : ℤ). a *ℤ u) (coefficient-rotations f n m size (omega arith) k below)
      ∙ ap (λ (i : ℕ). a *ℤ coefficient f ((k + (n - i)) % n)) (sym (add-zero m)))
      (star_from (suc m) c (omega arith)
      ∙ sum_same (summand_from (suc m) c) (λ (i : ℕ). summand_from m (a ∷ c) (suc i)) (length c)
      (λ i l. ap (λ (r : ℕ). coefficient c i *ℤ coefficient f ((k + (n - r)) % n)) (omega arith)))
      ∙ sym (sum_front (summand_from m (a ∷ c)) (length c))

  pub star-coefficient : (c : List ℤ) → length c ≡ n → coefficient (star f c) k ≡ sum (λ (i : ℕ). coefficient c i *ℤ coefficient f ((k + (n - i)) % n)) n
  unfolding summand_from
  star-coefficient c e =
      star_from 0 c (omega arith)
      ∙ ap (λ (m : ℕ). sum (summand_from 0 c) m) e
      ∙ sum_same (summand_from 0 c) (λ (i : ℕ). coefficient c i *ℤ coefficient f ((k + (n - i)) % n)) n
      (λ i l. ap (λ (r : ℕ). coefficient c i *ℤ coefficient f ((k + (n - r)) % n)) (omega arith))
