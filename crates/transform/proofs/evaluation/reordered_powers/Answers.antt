-- `reordered_powers` meets its contract: the loop reads the powers in the order of the table, one a turn.
use Rattle.std.proofs.Common.{rules, arith}
use Rattle.algebra.proofs.Filling.{filled_map}
use Rattle.transform.specs.Asks.{powers_in_order}
use Rattle.transform.proofs.evaluation.reordered_powers.Goals as goal

pub loop-i-preserved : goal.loop-i-preserved
unfolding powers_in_order
loop-i-preserved c = filled_map _ c.args.order.now c.loop-i.invariant 0 (omega arith) (omega arith) (search rules)
