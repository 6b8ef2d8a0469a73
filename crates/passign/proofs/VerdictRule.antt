-- The check says yes exactly when it is not refused and the paper's rule (section 3.3) holds of what is read: every coefficient of z is within
-- k - b, and the challenge drawn from the recovered commitment is the given one. It says no exactly when it is not refused and the rule fails.
-- Assumes nothing.
use mathlib.Core.Path.{◌≡◌}
use mathlib.Core.List.{List}
use mathlib.Core.Logic.Iff
use mathlib.Core.Logic.{◌↔◌}
use Prim.Native.Nat.{ℕ}
use lib.Dec.{eqb}
use Rattle.parameters.specs.declared.Params.{Params}
use Rattle.challenge.specs.Draw.{draw_challenge}
use Rattle.encoding.specs.Encoding.{exponents_of, evaluations_of}
use Rattle.scheme.specs.Scheme.{Drawer, Drawers}
use Rattle.scheme.proofs.Verdict.{verdict-true, verdict-false}
use Rattle.refusal.specs.Verdict as answer
use Rattle.refusal.specs.Answer.{set_in}
use Rattle.refusal.proofs.Apart.{refused_not_yes, refused_not_no, yes_not_no, no_not_yes}
use Rattle.refusal.proofs.Chain.{passed, chosen, end, equal_iff}
use Rattle.checking.specs.Check.{check_refusal_in, check_refusal, signature_read, check_verdict, verdict_after, check_answer_in, check_answer}
use Rattle.passign.specs.VerdictRule.{Rule}

module _ (draw : Drawer) (p : Params) (key message signature : List ℕ) where
  -- whatever number refuses
  module _ (refusal : ℕ) where
    yes_after : (verdict_after refusal (check_verdict draw p key message signature) ≡ answer.Yes) ↔ ((refusal ≡ 0) × Rule draw p key message signature)
    unfolding check_verdict
    yes_after =
        let rule = verdict-true draw p (exponents_of p key) message (evaluations_of p key) (signature_read p signature) in
        Iff.trans (chosen (eqb refusal 0) refused_not_yes (chosen (check_verdict draw p key message signature) no_not_yes end))
        (Iff.and equal_iff (λ h. rule.0 h.0, λ v. (rule.1 v, tt)))

    no_after : (verdict_after refusal (check_verdict draw p key message signature) ≡ answer.No) ↔ ((refusal ≡ 0) × (¬ Rule draw p key message signature))
    unfolding check_verdict
    no_after =
        let rule = verdict-false draw p (exponents_of p key) message (evaluations_of p key) (signature_read p signature) in
        Iff.trans (chosen (eqb refusal 0) refused_not_no (passed (check_verdict draw p key message signature) yes_not_no end))
        (Iff.and equal_iff (λ h. rule.0 h.0, λ v. (rule.1 v, tt)))

-- in any set, with any way to draw for each rule
module _ (draw : Drawers) (rule : ℕ) (p : Params) (key message signature : List ℕ) where
  pub verdict_yes : (check_answer_in draw rule p key message signature ≡ answer.Yes)
      ↔ ((check_refusal_in rule p key signature ≡ 0) × Rule (draw rule) p key message signature)
  unfolding check_answer_in
  verdict_yes = yes_after (draw rule) p key message signature (check_refusal_in rule p key signature)

  pub verdict_no : (check_answer_in draw rule p key message signature ≡ answer.No)
      ↔ ((check_refusal_in rule p key signature ≡ 0) × (¬ Rule (draw rule) p key message signature))
  unfolding check_answer_in
  verdict_no = no_after (draw rule) p key message signature (check_refusal_in rule p key signature)

-- the entry, in the set of the key's first byte, under the rule that it is given, whichever the signature was made under
module _ (rule : ℕ) (key message signature : List ℕ) where
  pub entry_verdict_yes : (check_answer rule key message signature ≡ answer.Yes)
      ↔ ((check_refusal rule key message signature ≡ 0) × Rule (draw_challenge rule) (set_in key) key message signature)
  unfolding check_answer
  entry_verdict_yes = yes_after (draw_challenge rule) (set_in key) key message signature (check_refusal rule key message signature)

  pub entry_verdict_no : (check_answer rule key message signature ≡ answer.No)
      ↔ ((check_refusal rule key message signature ≡ 0) × (¬ Rule (draw_challenge rule) (set_in key) key message signature))
  unfolding check_answer
  entry_verdict_no = no_after (draw_challenge rule) (set_in key) key message signature (check_refusal rule key message signature)
