-- Demand 3 on polynomials: what it is for another mask to do what a signing did.
-- Assumes nothing.
use Rattle.std.specs.Prelude.{◌≡◌, List, [], ◌∷◌, ℕ, T, ℤ, length}
use Rattle.std.proofs.Math.Option.{some}
use Rattle.algebra.specs.Integer.{within}
use Rattle.parameters.specs.declared.Params.{Params}
use Rattle.scheme.specs.Scheme.{Drawer, Signature, signing}

-- the mask y is within k and, offered alone with the key f, gives this commitment and this signature
pub record SameSigning (draw : Drawer) (p : Params) (exponents message : List ℕ) (f : List ℤ) (w : List ℤ) (s : Signature) (y : List ℤ) : Type 0 where
  pub size : length y ≡ p.n
  pub small : T (within p.k y)
  pub signs : signing draw p exponents message 0 f (y ∷ []) ≡ some (record { passed_over = 0; commitment = w; signature = s })
