-- The values so far are tested.
use Rattle.std.proofs.Common.{◌≡◌, take}
use Rattle.algebra.specs.All.{are_below}
use Rattle.encoding.proofs.numbers.are_below.Given as goal

abbrev pub invariant-loop-value : goal.invariant-loop-value
invariant-loop-value l = l.ok ≡ are_below l.q (take l.value-index l.values)
