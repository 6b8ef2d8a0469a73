-- Request #102: the exponents of an evaluation at all points.
-- Assumes nothing.
use Rattle.std.specs.Prelude.{List, ℕ, ◌-◌}
use Rattle.parameters.specs.declared.Params.{Params}
use Rattle.transform.specs.UpFrom.{up_from}

-- the exponents 1 .. N - 1, in this order
abbrev pub all_exponents : Params → List ℕ
all_exponents p = up_from 1 (p.n - 1)
