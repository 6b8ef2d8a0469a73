-- A check of what is held, from the fields to what they mean: it is the check of the public key that they encode to.
-- Assumes nothing.
use Rattle.std.proofs.Common.{◌≡◌, ℕ, ◌+◌, ◌*◌, ◌≤◌, List, ◌∷◌, length, take, Some, Ok, Err, arith}
use mathlib.Core.Bool.{true}
use Rattle.std.specs.declared.result.Result.{Result}
use Rattle.parameters.specs.declared.Params.{Params}
use Rattle.parameters.specs.Limits.{max_message}
use Rattle.parameters.specs.Sets.{is_set, set_of}
use Rattle.challenge.specs.Draw.{draw_challenge}
use Rattle.challenge.specs.Rules.{rule_number}
use Rattle.encoding.specs.Encoding.{are_exponents, are_evaluations, public_key}
use Rattle.refusal.specs.declared.Refusal.{Refusal}
use Rattle.refusal.specs.declared.Verdict as checked
use Rattle.refusal.specs.declared.Verdict.TheVariants as verdict
use Rattle.refusal.specs.Verdict.{Verdict}
use Rattle.refusal.specs.Meaning.{verdict_in}
use Rattle.checking.specs.Check.{answer_on, check_answer}
use Rattle.checking.proofs.Encoded.{encoded_answer}
use Rattle.session_rules.specs.CommandTable.{command_of, command_table}
use Rattle.session_rules.specs.Commands.{after_check, check, command, command_in}
use Rattle.session_commands.specs.declared.Added.{Added}
use Rattle.session_commands.specs.declared.Added.TheVariants.{Judged}
use Rattle.session_commands.specs.declared.Chosen.{Chosen}
use Rattle.session_commands.specs.declared.Held.TheInside.{Inside}
use Rattle.session_commands.specs.Outcome.{result_in}
use Rattle.session_commands.specs.View.{chosen_of, held_of, IsHeld}

abbrev pub judged_by : Result checked.Verdict Refusal → Result Added Refusal
judged_by (Ok v) = Ok (Judged v)
judged_by (Err r) = Err r

-- the check on lists is the check of the public key that they encode to
encoded_in : (p : Params) (set : ℕ) → is_set set ≡ true → p ≡ set_of set → (js vs message body : List ℕ) (rule : ℕ) → length message ≤ max_message
    → length js ≡ p.t → are_exponents p js ≡ true → length vs ≡ p.t → are_evaluations p vs ≡ true → length body ≡ 2 * p.b + 2 * p.n
    → check_answer rule (public_key set js vs) message (set ∷ body) ≡ answer_on draw_challenge rule p js vs message body
encoded_in p set known is js vs message body rule short a rise b below d =
    rw is (encoded_answer set js vs message body known short (rw is at a) (rw is at rise) (rw is at b) (rw is at below) (rw is at d) rule)

module _ (a : Inside) (x : Chosen) (js vs message : List ℕ) (held : IsHeld a)
    (set : a.set ≡ Some x) (points : a.exponents ≡ Some js) (values : a.evaluations ≡ Some vs) (text : a.message ≡ Some message)
    (points_size : length (take x.ring.params.t js) ≡ x.ring.params.t) (values_size : length (take x.ring.params.t vs) ≡ x.ring.params.t)
    (short : length message ≡ 64) (op : List ℕ) (size : length op ≡ 2 * x.ring.params.b + 2 * x.ring.params.n) where
  abbrev answer : Verdict
  answer = answer_on draw_challenge (rule_number a.rule) x.ring.params (take x.ring.params.t js) (take x.ring.params.t vs) message op

  rise : are_exponents x.ring.params (take x.ring.params.t js) ≡ true
  rise = rw (points, set) at held.exponents

  below : are_evaluations x.ring.params (take x.ring.params.t vs) ≡ true
  below = rw (values, set) at held.evaluations

  encoded : check_answer (rule_number a.rule) (public_key x.byte (take x.ring.params.t js) (take x.ring.params.t vs)) message (x.byte ∷ op) ≡ answer
  encoded =
      encoded_in x.ring.params x.byte x.known x.numbers (take x.ring.params.t js) (take x.ring.params.t vs) message op (rule_number a.rule) (omega arith) points_size rise values_size below size

  decided : command (held_of a) 7 op ≡ after_check (chosen_of x) (held_of a) answer
  unfolding check command command_in command_of command_table
  decided = rw (set, points, values, text, encoded)

  pub judged : (r : Result checked.Verdict Refusal) → verdict_in r ≡ answer → (s : List ℕ) → result_in (judged_by r) (held_of a) s ≡ command (held_of a) 7 op
  judged (Ok verdict.Yes) e s = rw (decided, ← e)
  judged (Ok verdict.No) e s = rw (decided, ← e)
  judged (Err r) e s = rw (decided, ← e)
