-- `print_row` writes from within its row.
use Rattle.std.proofs.Common.{◌≤◌, length}
use Rattle.play.proofs.print_row.Given as goal

abbrev pub invariant-loop : goal.invariant-loop
invariant-loop l = l.size ≤ length l.row
