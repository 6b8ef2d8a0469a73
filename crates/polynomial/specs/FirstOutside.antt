-- Request #103: where the test of a range ends.
-- Assumes nothing.
use Rattle.std.specs.Prelude.{◌≡◌, List, ◌⊎◌, ℕ, ◌<◌, ◌≤◌, leb, ℤ, nat_abs, length}
use Rattle.std.specs.List.{prefix_len}
use Rattle.polynomial.specs.Polynomial.{coefficient}

-- the index of the first coefficient that is not in -k..k, or the number of coefficients where none is outside
abbrev pub first_outside : ℕ → List ℤ → ℕ
first_outside k = prefix_len (λ (a : ℤ). leb (nat_abs a) k)

-- i is where the test of z ends: every coefficient before it is in -k..k, and the one at it is outside, or i is the number of coefficients
pub record EndsAt (k : ℕ) (z : List ℤ) (i : ℕ) : Type 0 where
  pub before : (j : ℕ) → j < i → nat_abs (coefficient z j) ≤ k
  pub here : ((i < length z) × (k < nat_abs (coefficient z i))) ⊎ (i ≡ length z)
