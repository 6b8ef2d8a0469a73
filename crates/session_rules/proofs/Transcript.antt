-- Document 01's session: whatever seven row buffers of 16,384 bytes it is played with, the buffers after the plays have the document's seven rows at
-- the front, and the session has ended.
-- Assumes nothing.
use mathlib.Core.Path.{◌≡◌, refl}
use mathlib.Core.Bool.{true}
use mathlib.Core.List.{List, map, zip_with}
use Prim.Native.Nat.{ℕ}
use lib.Dec.{T}
use lib.ListN.{length}
use Rattle.algebra.specs.All.{all}
use Rattle.parameters.specs.Sets.{sets, set_of}
use Rattle.polynomial.specs.Evaluation.{evaluation, evaluation_residue, evaluations, evaluation_residues}
use Rattle.encoding.specs.Bytes.{numbers}
use Rattle.text.specs.Text.{digits, signed_decimal, hex, spaced_integers}
use Rattle.session_rules.specs.CommandTable.{command_table, is_known, command_of}
use Rattle.session_rules.specs.Commands.{command_in, command, choose_set, load_exponents, load_key, load_mask}
use Rattle.session_rules.specs.Rows.{row_text, at_front}
use Rattle.session_rules.specs.Play.{opened, is_tagged, refusal_due, command_step, step, is_right}
use Rattle.session_rules.specs.Plays.{Event, events}
use Rattle.session_rules.specs.After.{after}
use Rattle.session_rules.specs.Transcript.{document, transcript}
use Rattle.session_rules.proofs.RightPlays.{StepRows, rows_played}

-- what is computed
computed : StepRows document opened transcript
unfolding document transcript opened step command_step refusal_due is_tagged command_table is_known command_of
    command command_in choose_set load_exponents load_key load_mask set_of sets numbers evaluations evaluation evaluation_residues evaluation_residue
    row_text digits signed_decimal hex spaced_integers
computed = (refl, (refl, (refl, (refl, (refl, (refl, (refl, (refl, (refl, (refl, (refl, (refl, (refl, (refl, refl))))))))))))))

pub transcript_of_document : (buffers : List (List ℕ)) → length buffers ≡ 7 → T (all is_right buffers)
    → (map (λ (v : Event). v.buffer) (events document buffers) ≡ zip_with at_front transcript buffers) × ((after opened document buffers).ended ≡ true)
unfolding events transcript
transcript_of_document buffers n r = rows_played document opened transcript buffers computed n r
