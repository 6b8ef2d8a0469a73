-- Ordinals count from 1: over any list of plays of one file, whatever its bytes and length, the next row's ordinal is the number of rows before it and one
-- more. Only where the first play finds the file too long or not tagged its row has ordinal 0 and byte 00, with refusal 1 or 15.
-- Assumes nothing.
use mathlib.Core.Path.{◌≡◌}
use mathlib.Core.Bool.{false}
use mathlib.Core.List.{List}
use Prim.Native.Nat.{ℕ}
use lib.ListN.{length}
use Rattle.session_rules.specs.Play.{opened, step}
use Rattle.session_rules.specs.Plays.{events}
use Rattle.session_rules.specs.After.{after}
use Rattle.session_rules.specs.Ordinals.{Numbered}
use Rattle.session_rules.proofs.Motion.{motion}
use Rattle.session_rules.proofs.Counting.{counted_after}

-- the row that the next play would write, where the session has not ended
pub ordinals_count : (file : List ℕ) (buffers : List (List ℕ)) → (after opened file buffers).ended ≡ false
    → Numbered (after opened file buffers) file (length (events file buffers)) (step (after opened file buffers) file)
ordinals_count file buffers goes = rw (← counted_after file buffers goes) (motion (after opened file buffers) file).numbered
