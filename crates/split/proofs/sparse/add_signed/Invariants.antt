-- `add_signed` meets its contract: one number a turn.
use mir.Syntax.{w32}
use mir.Val.{to_z}
use Rattle.split.proofs.SparseLaws.{Added}
use Rattle.split.proofs.sparse.add_signed.Given as goal

abbrev pub invariant-loop-v : goal.invariant-loop-v
invariant-loop-v g l = Added (to_z w32 g.row.SIGN) l.initial.sums l.row l.sums l.v
