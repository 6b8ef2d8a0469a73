-- Evaluations in the code's plays: the row of each accepted 03 of any plays of one file that the contracts of `open` and `play` allow prints the key's public
-- evaluations in signed form, at the points and in the set that are read from the commands played before it (`evaluations_printed`).
-- Assumes nothing.
use mathlib.Core.List.{List}
use Prim.Native.Nat.{ℕ}
use Rattle.session_rules.specs.Play.{opened}
use Rattle.session_rules.specs.Plays.{no_material}
use Rattle.session_rules.specs.HeldIsRead.{none_available}
use Rattle.session_rules.specs.PrintedEvaluations.{EachEvaluations}
use Rattle.session_rules.proofs.PrintedEvaluations.{evaluations_printed_lem}
use Rattle.session.specs.Turns.{Turn, Turns, lent_by, turn_events}
use Rattle.session.proofs.TurnsByRules.{turns_by_rules}

pub evaluations_printed_in_plays : (file : List ℕ) (ts : List Turn) → Turns opened file ts
    → EachEvaluations no_material none_available (turn_events opened file ts)
evaluations_printed_in_plays file ts h = rw (turns_by_rules file ts h) (evaluations_printed_lem file (lent_by ts))
