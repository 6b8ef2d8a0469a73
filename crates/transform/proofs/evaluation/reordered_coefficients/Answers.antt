-- `reordered_coefficients` meets its contract: one coefficient a turn.
use Rattle.std.proofs.Common.{length, rules, arith}
use Rattle.algebra.proofs.Filling.{filled_none}
use Rattle.transform.proofs.UpFrom.{filled_up, up_map-length}
use Rattle.transform.proofs.evaluation.reordered_coefficients.Goals as goal

pub loop-i-init : goal.loop-i-init
loop-i-init c = filled_none (up_map-length _ 0 (length c.args.order.now)) (search rules)

pub loop-i-preserved : goal.loop-i-preserved
loop-i-preserved c = filled_up _ (length c.args.order.now) c.loop-i.invariant (omega arith) (omega arith) (search rules)
