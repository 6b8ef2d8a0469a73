-- The first k entries are those of the coefficients below i.
use Rattle.std.proofs.Common.{◌≤◌, length}
use Rattle.encoding.proofs.Entries.{Put}
use Rattle.encoding.proofs.signature.write_entries.Given as goal

abbrev pub invariant-loop-i : goal.invariant-loop-i
invariant-loop-i l = (l.k ≤ length l.entries) × Put l.c l.entries l.k l.i
