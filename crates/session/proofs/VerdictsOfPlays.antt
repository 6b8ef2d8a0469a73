-- Verdicts in the code's plays: the row of each accepted 07 of any plays of one file that the contracts of `open` and `play` allow prints 1 exactly when the
-- paper's rule holds, with what is read from the commands played before it (`verdict_printed`).
-- Assumes nothing.
use mathlib.Core.List.{List}
use Prim.Native.Nat.{ℕ}
use Rattle.session_rules.specs.Play.{opened}
use Rattle.session_rules.specs.Plays.{no_material}
use Rattle.session_rules.specs.HeldIsRead.{none_available}
use Rattle.session_rules.specs.Verdicts.{EachVerdict}
use Rattle.session_rules.proofs.Verdicts.{verdicts_by_the_rule}
use Rattle.session.specs.Turns.{Turn, Turns, lent_by, turn_events}
use Rattle.session.proofs.TurnsByRules.{turns_by_rules}

pub verdicts_by_the_rule_in_plays : (file : List ℕ) (ts : List Turn) → Turns opened file ts
    → EachVerdict no_material none_available (turn_events opened file ts)
verdicts_by_the_rule_in_plays file ts h = rw (turns_by_rules file ts h) (verdicts_by_the_rule file (lent_by ts))
