-- Prime numbers, and the test of one.
-- Assumes nothing.
use Rattle.std.specs.Prelude.{Bool, ◌&&◌, not, ◌≢◌, ℕ, ◌-◌, ◌%◌, ◌<◌, eqb, ltb}
use Rattle.algebra.specs.All.{all}
use Rattle.transform.specs.UpFrom.{up_from}

-- n is above 1, and no number between 1 and n divides it
pub record Prime (n : ℕ) : Type 0 where
  pub above : 1 < n
  pub undivided : (d : ℕ) → 1 < d → d < n → n % d ≢ 0

abbrev pub is_prime : ℕ → Bool
is_prime n = ltb 1 n && all (λ (d : ℕ). not (eqb (n % d) 0)) (up_from 2 (n - 2))
