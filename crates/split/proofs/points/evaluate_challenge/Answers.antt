-- `evaluate_challenge` meets its contract, by either evaluator.
use mathlib.Core.Path.{◌≡◌, sym, ap, ap₂, ◌∙◌}
use mathlib.Core.List.{List}
use Prim.Native.Nat.{ℕ}
use native.Mathlib.Omega.{arith}
use lib.IntN.{ℤ}
use lib.ListN.{length, take}
use Rattle.parameters.specs.declared.Params.{Params}
use Rattle.polynomial.specs.Evaluation.{evaluation_residues}
use Rattle.encoding.proofs.Evaluating.{exponents_below}
use Rattle.split.proofs.ReadingLaws.{exponents_of, exponents_within, read_residues}
use Rattle.split.proofs.points.evaluate_challenge.Goals as goal

-- what stands in front of the wide challenge
front : {n : ℕ} {c : List ℤ} (wide : List ℤ) → length c ≡ n → take (length c) wide ≡ c → take n wide ≡ c
front wide size e = ap (λ (n : ℕ). take n wide) (sym size) ∙ e

front_size : {n : ℕ} {c : List ℤ} (wide : List ℤ) → length c ≡ n → take (length c) wide ≡ c → length (take n wide) ≡ n
front_size wide size e = ap length (front wide size e) ∙ size

pub wide_challenge-wide-requires : goal.wide_challenge-wide-requires
wide_challenge-wide-requires c = omega (arith, c.requires.c_len.0, c.args.ring.now.usable.fitting.size)

pub slice_bounds-evaluate_residues-end : goal.slice_bounds-evaluate_residues-end
slice_bounds-evaluate_residues-end c = sym (front_size _ c.requires.c_len.0 c.wide_challenge-wide.ensures)

pub evaluate_residues-requires : goal.evaluate_residues-requires
evaluate_residues-requires c = rw c.powers.ensures.numbers record {
  coefficients_len = front_size _ c.requires.c_len.0 c.wide_challenge-wide.ensures;
  exponents_below = exponents_below c.args.ring.now.params c.args.exponents.now c.requires.c_len.1;
  out_len = c.requires.c_len.2;
}

pub read_values-requires : goal.read_values-requires
read_values-requires c = (exponents_within c.args.ring.now.usable.fitting.size (exponents_of c.args.ring.now.params c.args.exponents.now c.requires.c_len.1), c.requires.c_len.2)

pub returns-then-p-lt-SPLIT_FROM : goal.returns-then-p-lt-SPLIT_FROM
returns-then-p-lt-SPLIT_FROM c = c.evaluate_residues.ensures
    ∙ ap₂ (λ (p : Params) (f : List ℤ). evaluation_residues p f c.args.exponents.now) c.powers.ensures.numbers (front _ c.requires.c_len.0 c.wide_challenge-wide.ensures)

pub returns-else-p-lt-SPLIT_FROM : goal.returns-else-p-lt-SPLIT_FROM
returns-else-p-lt-SPLIT_FROM c = c.read_values.ensures ∙ read_residues c.challenge_values-values.ensures (exponents_of
    c.args.ring.now.params c.args.exponents.now c.requires.c_len.1)
