-- `put` writes from within its bytes.
use Rattle.std.proofs.Common.{◌≤◌, length}
use Rattle.sha512_vectors.proofs.put.Given as goal

abbrev pub invariant-loop : goal.invariant-loop
invariant-loop g l = l.size ≤ length l.bytes
