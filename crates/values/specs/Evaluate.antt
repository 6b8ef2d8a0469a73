-- The entry `evaluate`: refusals 2, 1, 4, then the evaluations.
-- Assumes nothing.
use Rattle.std.specs.Prelude.{Bool, not, ◌&&◌, cond, List, ℕ, eqb, ℤ, length}
use Rattle.parameters.specs.declared.Params.{Params}
use Rattle.parameters.specs.Sets.{set_of}
use Rattle.polynomial.specs.Evaluation.{evaluations}
use Rattle.encoding.specs.Encoding.{are_exponents}
use Rattle.refusal.specs.Answer.{in_set, unless_refused}
use Rattle.refusal.specs.Numbers.{wrong_length, wrong_exponents}

-- the lengths: of the coefficients, the exponents and the buffer
abbrev pub evaluate_lengths : Params → ℕ → ℕ → ℕ → Bool
evaluate_lengths p coefficients exponents room = eqb coefficients p.n && (eqb exponents p.t && eqb room p.t)

-- of `size` coefficients and `room` places in the buffer
unfoldable pub evaluate_refusal_in : Params → ℕ → List ℕ → ℕ → ℕ
evaluate_refusal_in p size exponents room =
    cond (not (evaluate_lengths p size (length exponents) room)) wrong_length
    (cond (not (are_exponents p exponents)) wrong_exponents 0)

unfoldable pub evaluate_refusal : ℕ → List ℤ → List ℕ → List ℤ → ℕ
evaluate_refusal s f exponents out = in_set s (λ (p : Params). evaluate_refusal_in p (length f) exponents (length out))

unfoldable pub evaluate_written : ℕ → List ℤ → List ℕ → List ℤ → List ℤ
evaluate_written s f exponents out = unless_refused (evaluate_refusal s f exponents out) (evaluations (set_of s) f exponents) out
