-- The entry `evaluate_all`: refusals 2, 1, then the evaluations at the exponents 1 .. N - 1, in this order.
-- Assumes nothing.
use Rattle.std.specs.Prelude.{Bool, not, ◌&&◌, cond, List, ℕ, ◌-◌, eqb, ℤ, length}
use Rattle.parameters.specs.declared.Params.{Params}
use Rattle.parameters.specs.Sets.{set_of}
use Rattle.polynomial.specs.Evaluation.{evaluations}
use Rattle.transform.specs.AllExponents.{all_exponents}
use Rattle.refusal.specs.Answer.{in_set, unless_refused}
use Rattle.refusal.specs.Numbers.{wrong_length}

-- the lengths: of the coefficients and of the buffer
abbrev pub evaluate_all_lengths : Params → ℕ → ℕ → Bool
evaluate_all_lengths p coefficients room = eqb coefficients p.n && eqb room (p.n - 1)

unfoldable pub evaluate_all_refusal : ℕ → List ℤ → List ℤ → ℕ
evaluate_all_refusal s f out = in_set s (λ (p : Params). cond (not (evaluate_all_lengths p (length f) (length out))) wrong_length 0)

-- the plain evaluations
unfoldable pub evaluate_all_written : ℕ → List ℤ → List ℤ → List ℤ
evaluate_all_written s f out = unless_refused (evaluate_all_refusal s f out) (evaluations (set_of s) f (all_exponents (set_of s))) out
