-- `differences_of` meets its contract: the loop works out one difference a turn.
use Rattle.std.proofs.Common.{◌≡◌, length, take}
use Rattle.parameters.specs.Limits.{max_t}
use Rattle.scheme.specs.Scheme.{differences}
use Rattle.checking.proofs.differences_of.Given as goal

abbrev pub invariant-loop-i : goal.invariant-loop-i
invariant-loop-i l = (length l.out ≡ max_t) × (take l.i l.out ≡ take l.i (differences l.q l.z l.public l.challenge))
