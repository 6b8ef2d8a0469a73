-- Demand 3 of the code itself: any plays of one file that the contracts of `open` and `play` allow, whatever row buffers they are lent. It is the theorem of
-- session_rules over the commands that these plays played and the row buffers that they left: nothing lies between theorem and code.
-- Assumes nothing.
use mathlib.Core.List.{List}
use Prim.Native.Nat.{ℕ}
use Rattle.session_rules.specs.Play.{opened}
use Rattle.session_rules.specs.KeysHidden.{KeysHidden}
use Rattle.session_rules.proofs.HidingOfSessions.{hiding_of_sessions}
use Rattle.session.specs.Turns.{Turn, Turns, lent_by, turn_events}
use Rattle.session.proofs.TurnsByRules.{turns_by_rules}

pub hiding_of_plays : (file : List ℕ) (ts : List Turn) → Turns opened file ts → KeysHidden (turn_events opened file ts)
hiding_of_plays file ts h = rw (turns_by_rules file ts h) (hiding_of_sessions file (lent_by ts))
