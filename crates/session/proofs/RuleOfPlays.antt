-- The rule in force, in the code's plays: of any plays of one file that the contracts of `open` and `play` allow, whatever row buffers they are lent, the
-- session that the last play returned is under the rule of the last accepted 0B among the commands played, 1 before any; and what a 06 signs under, and a 07
-- judges by, is the rule of the commands before it.
-- Assumes nothing.
use mathlib.Core.List.{List}
use Prim.Native.Nat.{ℕ}
use Rattle.session_rules.specs.Play.{opened}
use Rattle.session_rules.specs.RuleInForce.{RuleInForce}
use Rattle.session_rules.proofs.RuleInForce.{rule_in_force}
use Rattle.session.specs.Turns.{Turn, Turns, lent_by, last_session, turn_events}
use Rattle.session.proofs.TurnsByRules.{turns_by_rules, turns_after}

pub rule_in_force_in_plays : (file : List ℕ) (ts : List Turn) → Turns opened file ts
    → RuleInForce (turn_events opened file ts) (last_session opened ts).held
rule_in_force_in_plays file ts h = rw (turns_by_rules file ts h, turns_after file ts h) (rule_in_force file (lent_by ts))
