-- The session examples/sessions/set-0.session: whatever nine row buffers of 16,384 bytes it is played with, the buffers after the plays have its nine
-- rows at the front, among them an accepted 06 and a 07 that says yes, and the session has ended.
-- Assumes nothing.
use mathlib.Core.Path.{◌≡◌}
use mathlib.Core.Bool.{true}
use mathlib.Core.List.{List, map, zip_with}
use Prim.Native.Nat.{ℕ}
use lib.Dec.{T}
use lib.ListN.{length}
use Rattle.algebra.specs.All.{all}
use Rattle.session_rules.specs.Rows.{at_front}
use Rattle.session_rules.specs.Play.{opened, is_right}
use Rattle.session_rules.specs.Plays.{Event, events}
use Rattle.session_rules.specs.After.{after}
use Rattle.session_rules.proofs.RightPlays.{rows_played}
use Rattle.worked_session.specs.WorkedSession.{file, transcript}
use Rattle.worked_session.proofs.Steps.{all_rows}

pub transcript_of_set_zero : (buffers : List (List ℕ)) → length buffers ≡ 9 → T (all is_right buffers)
    → (map (λ (v : Event). v.buffer) (events file buffers) ≡ zip_with at_front transcript buffers) × ((after opened file buffers).ended ≡ true)
unfolding events transcript
transcript_of_set_zero buffers n r = rows_played file opened transcript buffers all_rows n r
