-- `first_outside` meets its contract: a block that is inside is passed over, and the numbers behind it are scanned.
use Rattle.std.proofs.Common.{arith}
use Rattle.polynomial.proofs.RangeLoops.{passed_block, passed_room}
use Rattle.polynomial.proofs.range.first_outside.Goals as goal

pub loop-start-preserved : goal.loop-start-preserved
loop-start-preserved g c = passed_block _ c.loop-start.invariant 16 (omega arith) c.all_within.ensures c.if-all_within.true

pub overflow_add-result : goal.overflow_add-result
overflow_add-result g c = omega (arith, passed_room _ c.loop-start.invariant _ c.scan.ensures, c.well_formed)
