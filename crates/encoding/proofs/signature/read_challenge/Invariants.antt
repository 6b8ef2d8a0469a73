-- The coefficients below i are written, and k entries are used.
use Rattle.std.proofs.Common.{◌≤◌, length}
use Rattle.encoding.proofs.Entries.{Read}
use Rattle.encoding.proofs.signature.read_challenge.Given as goal

abbrev pub invariant-loop-i : goal.invariant-loop-i
invariant-loop-i l = (l.k ≤ l.i) × Read l.entries (length l.initial.c) l.c l.k l.i
