-- Lists of plays of one file, and the sessions that plays lead to.
-- Assumes nothing.
use Rattle.std.specs.Prelude.{List, [], ◌∷◌, ℕ, ◌+◌, length, replicate}
use Rattle.session_rules.specs.Play.{Session, opened, play}

-- the session after plays of one file, each lent a row buffer: the first play is handed s, each further one the session that the last returned
unfoldable pub after : Session → List ℕ → List (List ℕ) → Session
after s file [] = s
after s file (buffer ∷ buffers) = after (play s file buffer).session file buffers

-- a row buffer of 16,384 bytes
abbrev pub fresh_buffer : List ℕ
fresh_buffer = replicate 16384 0

-- a file taken from opening to its end: played as often as it has bytes and once more
unfoldable pub after_file : List ℕ → Session
after_file file = after opened file (replicate (length file + 1) fresh_buffer)

-- a session comes from opening it and changes only by playing it, whatever file and row buffer each play is lent
pub data Reachable : Session → Type 0 where
  just_opened : Reachable opened
  once_more : {s : Session} → Reachable s → (file buffer : List ℕ) → Reachable (play s file buffer).session
