-- The session's steps and their rows, the last step first. Loads compute; the 06 and the 07 are what the library's calls give.
-- Assumes nothing.
use mathlib.Core.Path.{◌≡◌, refl}
use mathlib.Core.Bool.{false}
use mathlib.Core.List.{List, [], ◌∷◌, flatten}
use mathlib.Core.Option.{some}
use Prim.Native.Nat.{ℕ}
use lib.IntN.{pos, negsuc}
use lib.ListN.{drop}
use Rattle.parameters.specs.Sets.{sets, set_of}
use Rattle.polynomial.specs.Evaluation.{evaluation, evaluation_residue, evaluations, evaluation_residues}
use Rattle.challenge.specs.Pool.{low_byte_rule}
use Rattle.encoding.specs.Bytes.{numbers}
use Rattle.text.specs.Text.{digits, signed_decimal, hex, spaced_integers}
use Rattle.session_rules.specs.Held.{Chosen, Held, with_masks, with_left}
use Rattle.session_rules.specs.CommandTable.{command_table, is_known, command_of}
use Rattle.session_rules.specs.Commands.{signed, judged, accepted, loaded_key, choose_set, load_exponents, load_key, load_mask, load_message, sign, check}
use Rattle.session_rules.specs.Commands.{command, command_in}
use Rattle.session_rules.specs.Rows.{row_text}
use Rattle.session_rules.specs.Play.{Session, Step, opened, is_tagged, refusal_due, goes_on, command_step, step, row_of}
use Rattle.session_rules.proofs.RightPlays.{StepRows}
use Rattle.worked_session.specs.WorkedSession.{key, exponents, values, masks, message, room, signature, file, transcript}
use Rattle.worked_session.proofs.Calls.{signs, writes, says_yes}

-- set 0 in force, what is held before the 06, and after it: the mask that signed was the last, and one signature less is left
unfoldable pub set_zero : Chosen
set_zero = record { byte = 0; params = set_of 0 }

unfoldable pub loaded : Held
loaded = record {
  rule = low_byte_rule;
  set = some set_zero;
  exponents = some exponents;
  key = some (loaded_key (drop 1 key));
  evaluations = some values;
  masks = (pos 1 ∷ negsuc 0 ∷ pos 1 ∷ negsuc 5 ∷ pos 2 ∷ []) ∷ (negsuc 0 ∷ negsuc 0 ∷ pos 1 ∷ pos 2 ∷ pos 2 ∷ []) ∷ [];
  message = some message;
}

unfoldable pub maskless : Held
maskless = with_left (with_masks loaded []) 65534

signing_result : sign set_zero loaded ≡ accepted maskless (signed 1 signature)
unfolding sign set_zero loaded maskless set_of sets key masks room flatten
signing_result = rw (signs, writes)

check_result : check set_zero maskless (drop 1 signature) ≡ accepted maskless (judged 1)
unfolding check set_zero loaded maskless signature
check_result = rw says_yes

-- a session that goes on, at this place and with this row count
unfoldable pub going : ℕ → ℕ → Held → Session
going place rows held = record { ended = false; place = place; rows = rows; held = held }

-- one row in front, by what its step gives
pub row_more : (file : List ℕ) (s : Session) (t : Step) (rows : List (List ℕ)) → s.ended ≡ false → step s file ≡ t → StepRows file t.session rows
    → StepRows file s (row_of t ∷ rows)
row_more file s t rows goes e more = (goes, (rw e, rw e more))

-- from the 00 on
end_row : StepRows file (going 120 8 maskless) (drop 8 transcript)
unfolding file message transcript going maskless loaded set_zero set_of sets
    step command_step refusal_due command_table is_known command_of row_text digits hex
end_row = (refl, (refl, refl))

-- from the 07 on
check_rows : StepRows file (going 105 7 maskless) (drop 7 transcript)
unfolding file message signature transcript going maskless loaded set_zero set_of sets
    step command_step refusal_due command_table is_known command_of command command_in row_text digits hex
check_rows =
    row_more file (going 105 7 maskless) (goes_on (going 105 7 maskless) 120 7 (drop 1 signature) (accepted maskless (judged 1)))
    (drop 8 transcript) refl (rw check_result) end_row

-- from the 06 on
sign_rows : StepRows file (going 104 6 loaded) (drop 6 transcript)
unfolding file message signature transcript going maskless loaded set_zero set_of sets
    step command_step refusal_due command_table is_known command_of command command_in row_text digits hex
sign_rows =
    row_more file (going 104 6 loaded) (goes_on (going 104 6 loaded) 105 6 [] (accepted maskless (signed 1 signature)))
    (drop 7 transcript) refl (rw signing_result) check_rows

-- all
pub all_rows : StepRows file opened transcript
unfolding file message transcript opened going loaded set_zero set_of sets key exponents values is_tagged
    step command_step refusal_due command_table is_known command_of command command_in choose_set load_exponents load_key load_mask load_message
    numbers evaluations evaluation evaluation_residues evaluation_residue row_text digits signed_decimal hex spaced_integers
all_rows = (refl, (refl, (refl, (refl, (refl, (refl, (refl, (refl, (refl, (refl, (refl, (refl, sign_rows))))))))))))
