-- `evaluate_in_form` meets its contract: the loop maps the evaluation over the points, one a turn.
use Rattle.std.proofs.Common.{rules, arith}
use Rattle.algebra.proofs.Filling.{filled_map}
use Rattle.polynomial.proofs.evaluation.evaluate_in_form.Goals as goal

pub loop-i-preserved : goal.loop-i-preserved
loop-i-preserved g c = filled_map _ c.args.exponents.now c.loop-i.invariant 0 (omega arith) (omega arith) (search rules)
