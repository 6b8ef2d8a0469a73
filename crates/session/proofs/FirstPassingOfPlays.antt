-- The first that passes, in the code's plays: for each accepted 06 of any plays of one file that the contracts of `open` and `play` allow, the mask that signed
-- is the first that passes among the masks read from the commands played before it; a 06 is refused with 9 only if none passes (`SignsByFirst`).
-- Assumes nothing.
use mathlib.Core.List.{List}
use Prim.Native.Nat.{ℕ}
use Rattle.session_rules.specs.Play.{opened}
use Rattle.session_rules.specs.Plays.{no_material}
use Rattle.session_rules.specs.FirstPassing.{EachSignsByFirst}
use Rattle.session_rules.proofs.FirstPassing.{first_passing_signs}
use Rattle.session.specs.Turns.{Turn, Turns, lent_by, turn_events}
use Rattle.session.proofs.TurnsByRules.{turns_by_rules}

pub first_passing_signs_in_plays : (file : List ℕ) (ts : List Turn) → Turns opened file ts
    → EachSignsByFirst no_material (turn_events opened file ts)
first_passing_signs_in_plays file ts h = rw (turns_by_rules file ts h) (first_passing_signs file (lent_by ts))
