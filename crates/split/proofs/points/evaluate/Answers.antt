-- `evaluate` meets its contract, by either evaluator.
use mathlib.Core.Path.{ap, ◌∙◌}
use native.Mathlib.Omega.{arith}
use Rattle.parameters.specs.declared.Params.{Params}
use Rattle.polynomial.specs.Evaluation.{evaluations}
use Rattle.encoding.proofs.Evaluating.{exponents_below}
use Rattle.split.proofs.ReadingLaws.{exponents_of, read_signed, values_under}
use Rattle.split.proofs.points.evaluate.Goals as goal

pub evaluate-requires : goal.evaluate-requires
evaluate-requires c = rw c.powers.ensures.numbers record {
  coefficients_len = c.requires.f_len.0;
  exponents_below = exponents_below c.args.ring.now.params c.args.exponents.now
      c.requires.f_len.1;
  out_len = c.requires.f_len.2;
}

pub read_centred-requires : goal.read_centred-requires
read_centred-requires c = let u = c.args.ring.now.usable in
    let under = values_under c.values_of-values.ensures (omega (arith, u.sound.modulus)) in
    record { q_bound = (omega (arith, u.fitting.modulus), u.fitting.size, under); exponents = (exponents_of c.args.ring.now.params c.args.exponents.now c.requires.f_len.1, c.requires.f_len.2) }

pub returns-then-p-lt-SPLIT_FROM : goal.returns-then-p-lt-SPLIT_FROM
returns-then-p-lt-SPLIT_FROM c = c.evaluate.ensures ∙ ap (λ (p : Params). evaluations p c.args.f.now c.args.exponents.now) c.powers.ensures.numbers

pub returns-else-p-lt-SPLIT_FROM : goal.returns-else-p-lt-SPLIT_FROM
returns-else-p-lt-SPLIT_FROM c = c.read_centred.ensures ∙ read_signed c.values_of-values.ensures (exponents_of c.args.ring.now.params
    c.args.exponents.now c.requires.f_len.1)
