-- What the signer's functions ask of their callers.
-- Assumes nothing.
use Rattle.std.specs.Prelude.{◌≡◌, true, List, ℕ, T, ℤ, length}
use Rattle.parameters.specs.declared.Params.{Params}
use Rattle.polynomial.specs.Polynomial.{ternary}
use Rattle.encoding.specs.Encoding.{are_exponents}

-- a key of the set, as a polynomial
pub record TernaryKey (p : Params) (f : List ℤ) : Type 0 where
  pub size : length f ≡ p.n
  pub small : T (ternary f)

-- exponents of the set's points
pub record Points (p : Params) (exponents : List ℕ) : Type 0 where
  pub size : length exponents ≡ p.t
  pub rise : are_exponents p exponents ≡ true
