-- The session examples/sessions/rules.session: whatever twenty-two row buffers of 16,384 bytes it is played with, the buffers after the plays have its
-- twenty-two rows at the front, and the session has ended. Each rule signs; the check says yes under the rule that signed and no under the other.
-- Assumes nothing.
use mathlib.Core.Path.{◌≡◌, refl}
use mathlib.Core.Bool.{true}
use mathlib.Core.List.{List, [], ◌∷◌, map, zip_with, flatten}
use mathlib.Core.Option.{none, some}
use Prim.Native.Nat.{ℕ}
use lib.Dec.{T}
use lib.ListN.{length, drop}
use Rattle.algebra.specs.All.{all}
use Rattle.parameters.specs.Sets.{sets, set_of}
use Rattle.polynomial.specs.Evaluation.{evaluation, evaluation_residue, evaluations, evaluation_residues}
use Rattle.challenge.specs.Pool.{low_byte_rule, three_byte_rule}
use Rattle.encoding.specs.Bytes.{numbers}
use Rattle.text.specs.Text.{digits, signed_decimal, hex, spaced_integers}
use Rattle.session_rules.specs.Held.{Held, with_rule, with_masks, with_left}
use Rattle.session_rules.specs.CommandTable.{command_table, is_known, command_of}
use Rattle.session_rules.specs.Commands.{signed, judged, accepted, loaded_key, choose_set, choose_rule, load_exponents, load_key, load_mask, load_message}
use Rattle.session_rules.specs.Commands.{load_evaluations, sign, check, command, command_in}
use Rattle.session_rules.specs.Rows.{row_text, at_front}
use Rattle.session_rules.specs.Play.{opened, is_tagged, refusal_due, goes_on, command_step, step, is_right}
use Rattle.session_rules.specs.Plays.{Event, events}
use Rattle.session_rules.specs.After.{after}
use Rattle.session_rules.proofs.RightPlays.{StepRows, rows_played}
use Rattle.worked_session.specs.WorkedSession.{key, exponents, values, message, room, signature}
use Rattle.worked_session.specs.Rules.{under_two, under_one, signature_by_two, file, transcript}
use Rattle.worked_session.proofs.Calls.{says_yes}
use Rattle.worked_session.proofs.RuleCalls.{signs_by_two, writes_by_two, signs_by_one, writes_by_one, yes_by_two, no_by_one, no_by_two}
use Rattle.worked_session.proofs.Steps.{set_zero, going, row_more}

-- what is held before the first 06, after it, after the second, and at the last 07
both : Held
both = record {
  rule = three_byte_rule;
  set = some set_zero;
  exponents = some exponents;
  key = some (loaded_key (drop 1 key));
  evaluations = some values;
  masks = under_two ∷ under_one ∷ [];
  message = some message;
}

one : Held
one = with_left (with_masks both (under_one ∷ [])) 65534

empty : Held
empty = with_left (with_masks (with_rule both low_byte_rule) []) 65533

again : Held
again = record {
  rule = three_byte_rule;
  set = some set_zero;
  exponents = some exponents;
  key = none;
  evaluations = some values;
  masks = [];
  message = some message;
}

-- the calls as commands, each under the rule in force
signed_by_two : sign set_zero both ≡ accepted one (signed 0 signature_by_two)
unfolding sign set_zero both one set_of sets key under_two under_one room flatten
signed_by_two = rw (signs_by_two, writes_by_two)

signed_by_one : sign set_zero (with_rule one low_byte_rule) ≡ accepted empty (signed 0 signature)
unfolding sign set_zero both one empty set_of sets key under_two under_one room flatten
signed_by_one = rw (signs_by_one, writes_by_one)

checked_by_two : check set_zero one (drop 1 signature_by_two) ≡ accepted one (judged 1)
unfolding check set_zero both one signature_by_two
checked_by_two = rw yes_by_two

judged_by_one : check set_zero (with_rule one low_byte_rule) (drop 1 signature_by_two) ≡ accepted (with_rule one low_byte_rule) (judged 0)
unfolding check set_zero both one signature_by_two
judged_by_one = rw no_by_one

checked_by_one : check set_zero empty (drop 1 signature) ≡ accepted empty (judged 1)
unfolding check set_zero both empty signature
checked_by_one = rw says_yes

judged_by_two : check set_zero (with_rule empty three_byte_rule) (drop 1 signature) ≡ accepted (with_rule empty three_byte_rule) (judged 0)
unfolding check set_zero both empty signature
judged_by_two = rw no_by_two

checked_again : check set_zero again (drop 1 signature_by_two) ≡ accepted again (judged 1)
unfolding check set_zero again signature_by_two
checked_again = rw yes_by_two

-- the rows, the last first: from the last 07 on
last_rows : StepRows file (going 253 20 again) (drop 20 transcript)
unfolding file message signature_by_two transcript going again set_zero set_of sets
    step command_step refusal_due command_table is_known command_of command command_in row_text digits hex
last_rows =
    row_more file (going 253 20 again) (goes_on (going 253 20 again) 268 7 (drop 1 signature_by_two) (accepted again (judged 1)))
    (drop 21 transcript) refl (rw checked_again) (refl, (refl, refl))

-- from the 07 of the second signature under rule 2 on
judged_rows : StepRows file (going 159 15 (with_rule empty three_byte_rule)) (drop 15 transcript)
unfolding file message signature transcript going both empty again set_zero set_of sets exponents values
    step command_step refusal_due command_table is_known command_of command command_in choose_set load_exponents load_evaluations load_message numbers
    row_text digits hex
judged_rows =
    row_more file (going 159 15 (with_rule empty three_byte_rule))
    (goes_on (going 159 15 (with_rule empty three_byte_rule)) 174 7 (drop 1 signature) (accepted (with_rule empty three_byte_rule) (judged 0)))
    (drop 16 transcript) refl (rw judged_by_two) (refl, (refl, (refl, (refl, (refl, (refl, (refl, (refl, last_rows))))))))

-- from its 07 under rule 1 on
yes_rows : StepRows file (going 142 13 empty) (drop 13 transcript)
unfolding file message signature transcript going both empty set_zero set_of sets
    step command_step refusal_due command_table is_known command_of command command_in choose_rule row_text digits hex
yes_rows =
    row_more file (going 142 13 empty) (goes_on (going 142 13 empty) 157 7 (drop 1 signature) (accepted empty (judged 1)))
    (drop 14 transcript) refl (rw checked_by_one) (refl, (refl, judged_rows))

-- from the 06 under rule 1 on
signing_rows : StepRows file (going 141 12 (with_rule one low_byte_rule)) (drop 12 transcript)
unfolding file message signature transcript going both one empty set_zero set_of sets
    step command_step refusal_due command_table is_known command_of command command_in row_text digits hex
signing_rows =
    row_more file (going 141 12 (with_rule one low_byte_rule))
    (goes_on (going 141 12 (with_rule one low_byte_rule)) 142 6 [] (accepted empty (signed 0 signature)))
    (drop 13 transcript) refl (rw signed_by_one) yes_rows

-- from the 07 of the first signature under rule 1 on
no_rows : StepRows file (going 126 11 (with_rule one low_byte_rule)) (drop 11 transcript)
unfolding file message signature_by_two transcript going both one set_zero set_of sets
    step command_step refusal_due command_table is_known command_of command command_in row_text digits hex
no_rows =
    row_more file (going 126 11 (with_rule one low_byte_rule))
    (goes_on (going 126 11 (with_rule one low_byte_rule)) 141 7 (drop 1 signature_by_two) (accepted (with_rule one low_byte_rule) (judged 0)))
    (drop 12 transcript) refl (rw judged_by_one) signing_rows

-- from its 07 under rule 2 on
check_rows : StepRows file (going 109 9 one) (drop 9 transcript)
unfolding file message signature_by_two transcript going both one set_zero set_of sets
    step command_step refusal_due command_table is_known command_of command command_in choose_rule row_text digits hex
check_rows =
    row_more file (going 109 9 one) (goes_on (going 109 9 one) 124 7 (drop 1 signature_by_two) (accepted one (judged 1)))
    (drop 10 transcript) refl (rw checked_by_two) (refl, (refl, no_rows))

-- from the 06 under rule 2 on
sign_rows : StepRows file (going 108 8 both) (drop 8 transcript)
unfolding file message signature_by_two transcript going both one set_zero set_of sets
    step command_step refusal_due command_table is_known command_of command command_in row_text digits hex
sign_rows =
    row_more file (going 108 8 both) (goes_on (going 108 8 both) 109 6 [] (accepted one (signed 0 signature_by_two)))
    (drop 9 transcript) refl (rw signed_by_two) check_rows

all_rows : StepRows file opened transcript
unfolding file message transcript opened going both set_zero set_of sets key exponents values under_two under_one is_tagged
    step command_step refusal_due command_table is_known command_of command command_in choose_set choose_rule load_exponents load_key load_mask load_message
    numbers evaluations evaluation evaluation_residues evaluation_residue row_text digits signed_decimal hex spaced_integers
all_rows =
    (refl, (refl, (refl, (refl, (refl, (refl, (refl, (refl, (refl, (refl, (refl, (refl, (refl, (refl, (refl, (refl, sign_rows))))))))))))))))

pub transcript_of_rules : (buffers : List (List ℕ)) → length buffers ≡ 22 → T (all is_right buffers)
    → (map (λ (v : Event). v.buffer) (events file buffers) ≡ zip_with at_front transcript buffers) × ((after opened file buffers).ended ≡ true)
unfolding events transcript
transcript_of_rules buffers n r = rows_played file opened transcript buffers all_rows n r
