-- The paper's rule (section 3.3): what a valid signature is, on polynomials.
-- Assumes nothing.
use Rattle.std.specs.Prelude.{◌≡◌, List, ℕ, ◌-◌, ◌≤◌, ◌<◌, nat_abs, length}
use Rattle.std.proofs.Math.Option.{some}
use Rattle.parameters.specs.declared.Params.{Params}
use Rattle.polynomial.specs.Polynomial.{coefficient}
use Rattle.scheme.specs.Scheme.{Drawer, Signature, recovered}

-- s is a signature of the message under the public evaluations vs, in 0..q-1: every coefficient of z is within k - b, and the challenge is the one drawn
-- from the recovered commitment
pub record Valid (draw : Drawer) (p : Params) (exponents message vs : List ℕ) (s : Signature) : Type 0 where
  pub range : (i : ℕ) → i < length s.z → nat_abs (coefficient s.z i) ≤ p.k - p.b
  pub challenge : draw p (recovered p s exponents vs) message ≡ some s.c
