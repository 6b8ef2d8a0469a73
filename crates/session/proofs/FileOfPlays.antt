-- The commands that the code plays are the file: after any plays of one file that the contracts of `open` and `play` allow, whatever row buffers they are
-- lent, the tag followed by byte and operand of each command played is the file up to the place reached, as long as the session goes on, and the row that
-- ends it has the file's byte there (`FilePlayed`).
-- Assumes nothing.
use mathlib.Core.List.{List}
use Prim.Native.Nat.{ℕ}
use Rattle.session_rules.specs.Play.{opened}
use Rattle.session_rules.specs.FilePlayed.{FilePlayed}
use Rattle.session_rules.proofs.FilePlayed.{commands_are_the_file}
use Rattle.session.specs.Turns.{Turn, Turns, lent_by, last_session, turn_events}
use Rattle.session.proofs.TurnsByRules.{turns_by_rules, turns_after}

pub plays_are_the_file : (file : List ℕ) (ts : List Turn) → Turns opened file ts
    → FilePlayed file (turn_events opened file ts) (last_session opened ts)
plays_are_the_file file ts h = rw (turns_by_rules file ts h, turns_after file ts h) (commands_are_the_file file (lent_by ts))
