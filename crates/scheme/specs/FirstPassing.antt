-- The first mask that passes, and the count of the masks that fail, on polynomials.
-- Assumes nothing.
use Rattle.std.specs.Prelude.{◌≡◌, List, [], ◌∷◌, ℕ, ◌+◌, ◌<◌, ℤ, length, get_or}
use Rattle.std.proofs.Math.Option.{Option, none, some}
use Rattle.parameters.specs.declared.Params.{Params}
use Rattle.polynomial.specs.Evaluation.{evaluations}
use Rattle.scheme.specs.Scheme.{Drawer, Signature, Signed, attempt}

module _ (draw : Drawer) (p : Params) (exponents message : List ℕ) (f : List ℤ) where
  -- r is by the first mask that passes: mask number passed_over is offered, gives r's signature and r's commitment, and every mask before it fails
  pub record FirstPassing (ys : List (List ℤ)) (r : Signed) : Type 0 where
    pub offered : r.passed_over < length ys
    pub passes : attempt draw p exponents message f (get_or ys r.passed_over []) ≡ some r.signature
    pub commits : evaluations p (get_or ys r.passed_over []) exponents ≡ r.commitment
    pub earlier : (i : ℕ) → i < r.passed_over → attempt draw p exponents message f (get_or ys i []) ≡ none

  -- the count of the masks that fail
  abbrev pub failure : Option Signature → ℕ
  failure none = 1
  failure (some s) = 0

  abbrev pub failures : List (List ℤ) → ℕ
  failures [] = 0
  failures (y ∷ ys) = failure (attempt draw p exponents message f y) + failures ys
