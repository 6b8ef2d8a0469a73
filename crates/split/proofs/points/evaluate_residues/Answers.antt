-- `evaluate_residues` meets its contract, by either evaluator.
use mathlib.Core.Path.{ap, ◌∙◌}
use Rattle.parameters.specs.declared.Params.{Params}
use Rattle.polynomial.specs.Evaluation.{evaluation_residues}
use Rattle.encoding.proofs.Evaluating.{exponents_below}
use Rattle.split.proofs.ReadingLaws.{exponents_of, exponents_within, read_residues}
use Rattle.split.proofs.points.evaluate_residues.Goals as goal

pub evaluate_residues-requires : goal.evaluate_residues-requires
evaluate_residues-requires c = rw c.powers.ensures.numbers record {
  coefficients_len = c.requires.f_len.0;
  exponents_below = exponents_below c.args.ring.now.params
      c.args.exponents.now c.requires.f_len.1;
  out_len = c.requires.f_len.2;
}

pub read_values-requires : goal.read_values-requires
read_values-requires c = (exponents_within c.args.ring.now.usable.fitting.size (exponents_of c.args.ring.now.params c.args.exponents.now c.requires.f_len.1), c.requires.f_len.2)

pub returns-then-p-lt-SPLIT_FROM : goal.returns-then-p-lt-SPLIT_FROM
returns-then-p-lt-SPLIT_FROM c = c.evaluate_residues.ensures ∙ ap (λ (p : Params). evaluation_residues p c.args.f.now c.args.exponents.now) c.powers.ensures.numbers

pub returns-else-p-lt-SPLIT_FROM : goal.returns-else-p-lt-SPLIT_FROM
returns-else-p-lt-SPLIT_FROM c = c.read_values.ensures ∙ read_residues c.values_of-values.ensures (exponents_of c.args.ring.now.params
    c.args.exponents.now c.requires.f_len.1)
