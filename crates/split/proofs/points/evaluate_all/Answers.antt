-- `evaluate_all` meets its contract, by either evaluator.
use mathlib.Core.Path.{ap, sym, ◌∙◌}
use native.Mathlib.Omega.{arith}
use Rattle.parameters.specs.declared.Params.{Params}
use Rattle.polynomial.specs.Evaluation.{evaluations}
use Rattle.transform.specs.AllExponents.{all_exponents}
use Rattle.split.proofs.LevelLoops.{under_shorter}
use Rattle.split.proofs.ReadingLaws.{read_all, values_under}
use Rattle.split.proofs.SetTable.{passed}
use Rattle.split.proofs.points.evaluate_all.Goals as goal

pub overflow_sub-last : goal.overflow_sub-last
overflow_sub-last c = omega (arith, c.requires.prime.above)

pub slice_bounds-evaluate_all-end : goal.slice_bounds-evaluate_all-end
slice_bounds-evaluate_all-end c = sym (passed c.args.ring.now).ordered.table.size

pub evaluate_all-requires : goal.evaluate_all-requires
evaluate_all-requires c = rw c.powers.ensures.numbers record { prime = (c.requires.prime, (passed c.args.ring.now).ordered); coefficients_len = c.requires.f_len }

pub centre_all-requires : goal.centre_all-requires
centre_all-requires c = let u = c.args.ring.now.usable in
    let under = values_under c.values_of-values.ensures (omega (arith, u.sound.modulus)) in
    (omega (arith, u.fitting.modulus), omega (arith, c.requires.f_len.1, u.fitting.size), under_shorter (omega (arith, c.requires.f_len.1)) under)

pub returns-then-p-lt-SPLIT_FROM : goal.returns-then-p-lt-SPLIT_FROM
returns-then-p-lt-SPLIT_FROM c = c.evaluate_all.ensures ∙ ap (λ (p : Params). evaluations p c.args.f.now (all_exponents p)) c.powers.ensures.numbers

pub returns-else-p-lt-SPLIT_FROM : goal.returns-else-p-lt-SPLIT_FROM
returns-else-p-lt-SPLIT_FROM c = c.centre_all.ensures ∙ read_all c.values_of-values.ensures c.requires.f_len.1
