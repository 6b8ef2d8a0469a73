-- `add_multiple` meets its contract: by its sign, a is 1, -1 or 0.
use mathlib.Core.Path.{sym, ap, ◌∙◌}
use mathlib.Core.List.{map}
use native.Mathlib.Omega.{arith}
use lib.IntN.{ℤ, pos}
use lib.ListN.{length-map}
use mir.Facts.{to_z-of_z}
use Rattle.polynomial.specs.Polynomial.{add, scale}
use Rattle.polynomial.proofs.Linear.{add_none}
use Rattle.split.proofs.SparseLaws.{is_zero}
use Rattle.split.proofs.sparse.add_multiple.Goals as goal

pub returns-else-a-lt0 : goal.returns-else-a-lt0
returns-else-a-lt0 c =
    sym (add_none c.args.sums.now (map pos c.args.row.now) (omega (arith, c.requires.row_len.0, length-map c.args.row.now pos)))
    ∙ ap (λ (b : ℤ). add c.args.sums.now (scale b (map pos c.args.row.now)))
    (sym (is_zero c.args.a (rw (to_z-of_z c.ranges.a) at c.if-a-gt0.false) (rw (to_z-of_z c.ranges.a) at c.if-a-lt0.false)))
