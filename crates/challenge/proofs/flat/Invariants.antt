-- `challenge::flat` meets its contract: the first i bytes are those of the digests one after the other.
use mathlib.Core.List.{flatten}
use Rattle.algebra.proofs.Filling.{Filled}
use Rattle.challenge.proofs.flat.Given as goal

abbrev pub invariant-loop-i : goal.invariant-loop-i
invariant-loop-i l = Filled (flatten l.digests) 512 512 l.bytes l.i
