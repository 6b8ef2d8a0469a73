-- Sums for a polynomial with few coefficients that are not 0, each of them 1 or -1: a challenge.
-- Assumes nothing.
use Rattle.std.specs.Prelude.{◌≡◌, List, ℕ, ◌+◌, ◌*◌, ◌%◌, ◌<◌, ℤ, pos, ◌*ℤ◌, length, get_or}
use Rattle.algebra.specs.Integer.{sum}
use Rattle.polynomial.specs.Polynomial.{coefficient}
use Rattle.transform.specs.Convolution.{entry}

-- t has the powers of g in the order of a table, twice, one after the other: whatever place a row starts at, it then reads places one after the other
pub record Twice (powers order t : List ℕ) : Type 0 where
  pub each : (m : ℕ) → m < 2 * length order → get_or t m 0 ≡ get_or powers (get_or order (m % length order) 0) 0

-- the sum at place v: each coefficient, in the order of the table, times the power v places on
abbrev pub sparse_sum : List ℤ → List ℕ → List ℕ → ℕ → ℕ → ℤ
sparse_sum f order t n v = sum (λ (m : ℕ). coefficient f (get_or order m 0) *ℤ entry t (m + v)) n

-- l has these sums in front
pub record SparseSums (f : List ℤ) (order t : List ℕ) (l : List ℤ) : Type 0 where
  pub each : (v : ℕ) → v < length order → get_or l v (pos 0) ≡ sparse_sum f order t (length order) v
