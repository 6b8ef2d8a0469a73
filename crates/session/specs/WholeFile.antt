-- A file played by the code from opening to its end.
-- Assumes nothing.
use Rattle.std.specs.Prelude.{◌≡◌, true, cond, List, [], ◌∷◌, ◌++◌, ℕ, take, T}
use Rattle.std.specs.List.{FoldsTo}
use Rattle.algebra.specs.All.{all}
use Rattle.session_rules.specs.Play.{Session, opened, is_row, is_right}
use Rattle.session_rules.specs.Rows.{row_size}
use Rattle.session_rules.specs.After.{after_file}
use Rattle.session.specs.Played.{play_answer_of}
use Rattle.session.specs.Turns.{Turn, Turns, lent_by, last_session}

-- turns that lead to the session s: from a session just opened, each as the contract of `play` allows, each with a row buffer of 16,384 bytes
pub record PlayedTo (file : List ℕ) (s : Session) : Type 0 where
  pub turns : List Turn
  pub allowed : Turns opened file turns
  pub right : T (all is_right (lent_by turns))
  pub last : last_session opened turns ≡ s

-- they take the file to its end
pub record PlayedWhole (file : List ℕ) (s : Session) : Type 0 where
  pub played : PlayedTo file s
  pub ended : s.ended ≡ true
  pub session : s ≡ after_file file

-- the rows that turns wrote, each at the front of the buffer that the turn left
abbrev pub rows_written : List Turn → List (List ℕ)
rows_written [] = []
rows_written (t ∷ ts) = cond (is_row (play_answer_of t.answer)) (take (row_size t.buffer_after) t.buffer_after ∷ []) [] ++ rows_written ts

-- and the function f was called at each of these rows, in order, where R says what one call does
pub record PlayedEach {F : Type 0} (R : F → List ℕ → F → Type 0) (f : F) (file : List ℕ) (s : Session) : Type 0 where
  pub whole : PlayedWhole file s
  pub last : F
  pub calls : FoldsTo R f (rows_written whole.played.turns) last
