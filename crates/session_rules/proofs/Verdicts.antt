-- Verdicts in sessions: the row of each accepted 07 of any list of plays of a file from a session just opened prints 1 exactly when the paper's rule holds of
-- the signature in its operand, with rule of hashing, set, points, message and public evaluations read from the commands played before it, and 0 otherwise: a
-- signature is judged by the rule in force, whichever it was made under.
-- Assumes nothing.
use mathlib.Core.List.{List}
use Prim.Native.Nat.{ℕ}
use Rattle.session_rules.specs.Plays.{events, no_material}
use Rattle.session_rules.specs.HeldIsRead.{none_available}
use Rattle.session_rules.specs.Verdicts.{verdict_printed, EachVerdict}
use Rattle.session_rules.proofs.PrintedRows.{printed_rows}

pub verdicts_by_the_rule : (file : List ℕ) (buffers : List (List ℕ)) → EachVerdict no_material none_available (events file buffers)
verdicts_by_the_rule = printed_rows 7 verdict_printed (λ m a s x f. f.judges)
