-- Plays with right row buffers that end the session by the last of them: the buffers after them have the rows of the steps at the front.
-- Assumes nothing.
use mathlib.Core.Path.{◌≡◌, refl}
use mathlib.Core.Bool.{true, false}
use mathlib.Core.List.{List, [], ◌∷◌, map, zip_with}
use Prim.Native.Nat.{ℕ}
use native.Mathlib.Omega.{arith}
use lib.Dec.{T, eqb→eq}
use lib.ListN.{length}
use Rattle.algebra.specs.All.{all}
use Rattle.algebra.proofs.Test.{and_left, and_right}
use Rattle.session_rules.specs.Rows.{at_front}
use Rattle.session_rules.specs.Play.{Session, step, row_of, is_right}
use Rattle.session_rules.specs.Plays.{Event, events_from}
use Rattle.session_rules.specs.After.{after}
use Rattle.session_rules.proofs.After.{play-written}

module _ (file : List ℕ) where
  -- the session's steps print these rows and no more
  abbrev pub StepRows : Session → List (List ℕ) → Type 0
  StepRows s [] = s.ended ≡ true
  StepRows s (row ∷ rows) = (s.ended ≡ false) × ((row_of (step s file) ≡ row) × StepRows (step s file).session rows)

  pub rows_played : (s : Session) (rows buffers : List (List ℕ)) → StepRows s rows → length buffers ≡ length rows → T (all is_right buffers)
      → (map (λ (v : Event). v.buffer) (events_from s file buffers) ≡ zip_with at_front rows buffers) × ((after s file buffers).ended ≡ true)
  unfolding events_from after zip_with
  rows_played s [] [] e n r = (refl, e)
  rows_played s [] (buffer ∷ buffers) e n r = absurd (omega arith)
  rows_played s (row ∷ rows) [] w n r = absurd (omega arith)
  rows_played s (row ∷ rows) (buffer ∷ buffers) (goes, (same, more)) n r =
      let right = eqb→eq (length buffer) 16384 (and_left (is_right buffer) (all is_right buffers) r) in
      let rest = rows_played (step s file).session rows buffers more (omega arith) (and_right (is_right buffer) (all is_right buffers) r) in
      let written = play-written s file buffer right goes in
      (rw (written, ← same, rest.0), rw (after, written) rest.1)
