-- The session examples/sessions/key-life.session: whatever nineteen row buffers of 16,384 bytes it is played with, the buffers after the plays have its
-- nineteen rows at the front, and the session has ended.
-- Assumes nothing.
use mathlib.Core.Path.{◌≡◌, refl}
use mathlib.Core.Bool.{true}
use mathlib.Core.List.{List, [], map, zip_with, flatten}
use mathlib.Core.Option.{none}
use Prim.Native.Nat.{ℕ}
use lib.Dec.{T}
use lib.ListN.{length, drop}
use Rattle.algebra.specs.All.{all}
use Rattle.parameters.specs.Sets.{sets, set_of}
use Rattle.polynomial.specs.Evaluation.{evaluation, evaluation_residue, evaluations, evaluation_residues}
use Rattle.encoding.specs.Bytes.{numbers}
use Rattle.encoding.specs.Encoding.{is_key}
use Rattle.signing.specs.Signer.{signed_by}
use Rattle.signing.specs.Sign.{sign_refusal_in, sign_refusal, sign_answer}
use Rattle.text.specs.Text.{digits, signed_decimal, hex, spaced_integers}
use Rattle.session_rules.specs.Held.{Held, with_left, with_masks, with_message}
use Rattle.session_rules.specs.CommandTable.{command_table, is_known, command_of}
use Rattle.session_rules.specs.Commands.{signed, accepted, choose_set, load_exponents, load_key, load_mask, load_message, sign, grant}
use Rattle.session_rules.specs.Commands.{command, command_in}
use Rattle.session_rules.specs.Rows.{row_text, at_front}
use Rattle.session_rules.specs.Play.{opened, is_tagged, refusal_due, goes_on, command_step, step, is_right}
use Rattle.session_rules.specs.Plays.{Event, events}
use Rattle.session_rules.specs.After.{after}
use Rattle.session_rules.proofs.RightPlays.{StepRows, rows_played}
use Rattle.worked_session.specs.WorkedSession.{key, exponents, values, masks, message, room, signature}
use Rattle.worked_session.specs.KeyLife.{file, transcript}
use Rattle.worked_session.proofs.Calls.{signs, writes}
use Rattle.worked_session.proofs.Steps.{set_zero, loaded, maskless, going, row_more}

-- what is held with none left and no message yet, with the message and both masks, before the 06 that signs, and after it
keyed : Held
keyed = with_left (with_message (with_masks loaded []) none) 0

ungranted : Held
ungranted = with_left loaded 0

granted : Held
granted = with_left loaded 1

spent : Held
spent = with_left maskless 0

signing_result : sign set_zero granted ≡ accepted spent (signed 1 signature)
unfolding sign set_zero loaded maskless granted spent set_of sets key masks room flatten
signing_result = rw (signs, writes)

-- from the 06 behind it on
refused_rows : StepRows file (going 124 15 spent) (drop 15 transcript)
unfolding file message transcript going maskless loaded spent set_zero set_of sets key exponents values
    step command_step refusal_due command_table is_known command_of command command_in load_key sign sign_answer sign_refusal sign_refusal_in signed_by is_key flatten
    numbers evaluations evaluation evaluation_residues evaluation_residue row_text digits signed_decimal hex spaced_integers
refused_rows = (refl, (refl, (refl, (refl, (refl, (refl, (refl, (refl, refl))))))))

-- from the 06 that signs on
signing_rows : StepRows file (going 123 14 granted) (drop 14 transcript)
unfolding file message signature transcript going maskless loaded granted spent set_zero set_of sets
    step command_step refusal_due command_table is_known command_of command command_in row_text digits hex
signing_rows =
    row_more file (going 123 14 granted) (goes_on (going 123 14 granted) 124 6 [] (accepted spent (signed 1 signature)))
    (drop 15 transcript) refl (rw signing_result) refused_rows

-- from the 06 with both masks and none left on
spent_rows : StepRows file (going 112 10 ungranted) (drop 10 transcript)
unfolding file message transcript going loaded granted ungranted set_zero set_of sets key exponents values
    step command_step refusal_due command_table is_known command_of command command_in load_key sign grant row_text digits hex
spent_rows = (refl, (refl, (refl, (refl, (refl, (refl, (refl, (refl, signing_rows))))))))

-- from the 06 without a message on
loading_rows : StepRows file (going 23 5 keyed) (drop 5 transcript)
unfolding file message transcript going loaded ungranted keyed set_zero set_of sets key exponents values
    step command_step refusal_due command_table is_known command_of command command_in load_mask load_message sign numbers row_text digits hex
loading_rows = (refl, (refl, (refl, (refl, (refl, (refl, (refl, (refl, (refl, (refl, spent_rows))))))))))

all_rows : StepRows file opened transcript
unfolding file message transcript opened going loaded keyed set_zero set_of sets key exponents values is_tagged
    step command_step refusal_due command_table is_known command_of command command_in choose_set load_exponents load_key grant
    numbers evaluations evaluation evaluation_residues evaluation_residue row_text digits signed_decimal hex spaced_integers
all_rows = (refl, (refl, (refl, (refl, (refl, (refl, (refl, (refl, (refl, (refl, loading_rows))))))))))

pub transcript_of_key_life : (buffers : List (List ℕ)) → length buffers ≡ 19 → T (all is_right buffers)
    → (map (λ (v : Event). v.buffer) (events file buffers) ≡ zip_with at_front transcript buffers) × ((after opened file buffers).ended ≡ true)
unfolding events transcript
transcript_of_key_life buffers n r = rows_played file opened transcript buffers all_rows n r
