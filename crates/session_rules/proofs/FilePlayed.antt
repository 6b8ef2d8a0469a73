-- The commands played are the file: from a session just opened, for every file and any list of row buffers, the tag followed by byte and operand of
-- each command played, in order, is the file up to the place reached, as long as the session goes on, and each operand is as long as document 01 says in
-- the set in force. The row that ends the session has the file's byte at the place reached, or 00 where the file ends there; with 1 and 15 it has byte 00,
-- and nothing was read.
-- Assumes nothing.
use mathlib.Core.List.{List, []}
use Prim.Native.Nat.{ℕ}
use Rattle.session_rules.specs.Play.{opened}
use Rattle.session_rules.specs.Plays.{events}
use Rattle.session_rules.specs.After.{after}
use Rattle.session_rules.specs.FilePlayed.{FilePlayed}
use Rattle.session_rules.proofs.Reading.{reading_opened, read_from, each_sized}

pub commands_are_the_file : (file : List ℕ) (buffers : List (List ℕ)) → FilePlayed file (events file buffers) (after opened file buffers)
unfolding events
commands_are_the_file file buffers =
    let r = read_from file opened [] (reading_opened file) buffers in
    record { read = r.read; place = r.place; ends = r.ends; sized = each_sized file buffers }
