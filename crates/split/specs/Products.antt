-- The middle stage: for each root the product of its block with its row of the table.
-- Assumes nothing.
use Rattle.std.specs.Prelude.{◌≡◌, List, ℕ, ◌+◌, ◌*◌, ◌<◌, pos, ◌*ℤ◌, nat_abs}
use Rattle.algebra.specs.Integer.{sum}
use Rattle.transform.specs.Asks.{dot_at}
use Rattle.transform.specs.Convolution.{entry}
use Rattle.split_tables.specs.Split.{row_at}
use Rattle.split.specs.Levels.{Same}
use Rattle.split.specs.declared.products.Four.{Four}

-- y has, at place v of block s, the sum of the numbers of block s of x times those of row s from v on, modulo q
pub record Products (q k l : ℕ) (x rows y : List ℕ) : Type 0 where
  pub each : (s v : ℕ) → s < k → v < l → Same q (entry y (s * l + v)) (sum (λ (i : ℕ). entry x (s * l + i) *ℤ pos (row_at l rows s (v + i))) l)

-- four sums of n products each: numbers of u times those of v from j, j + 1, j + 2 and j + 3 on
abbrev pub FourDots : Four → List ℕ → List ℕ → ℕ → ℕ → Type 0
FourDots s u v j n =
    (s.a ≡ nat_abs (dot_at u v j n)) × (s.b ≡ nat_abs (dot_at u v (j + 1) n)) × (s.c ≡ nat_abs (dot_at u v (j + 2) n)) × (s.d ≡ nat_abs (dot_at u v (j + 3) n))
