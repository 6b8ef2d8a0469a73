-- `evaluate_in_form` meets its contract: the loop maps the evaluation over the points, one a turn.
use Rattle.std.proofs.Common.{map, length}
use Rattle.algebra.proofs.Filling.{Filled}
use Rattle.polynomial.specs.Evaluation.{evaluation_residue}
use Rattle.polynomial.proofs.evaluation.evaluate_in_form.Given as goal

abbrev pub invariant-loop-i : goal.invariant-loop-i
invariant-loop-i g l = Filled (map (λ j. g.R.Reduced.of_residue (evaluation_residue l.powers.params l.coefficients j) l.powers.params.q) l.exponents) (length l.exponents) (length l.exponents) l.out l.i
