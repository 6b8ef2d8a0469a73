-- Evaluations in sessions: the row of each accepted 03 of any list of plays of a file from a session just opened prints the public evaluations, in signed form,
-- of the key in its operand, at the points and in the set that are read from the commands played before it.
-- Assumes nothing.
use mathlib.Core.List.{List}
use Prim.Native.Nat.{ℕ}
use Rattle.session_rules.specs.Plays.{events, no_material}
use Rattle.session_rules.specs.HeldIsRead.{none_available}
use Rattle.session_rules.specs.PrintedEvaluations.{evaluations_printed, EachEvaluations}
use Rattle.session_rules.proofs.PrintedRows.{printed_rows}

pub evaluations_printed_lem : (file : List ℕ) (buffers : List (List ℕ)) → EachEvaluations no_material none_available (events file buffers)
evaluations_printed_lem = printed_rows 3 evaluations_printed (λ m a s x f. f.prints)
