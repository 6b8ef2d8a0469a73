-- `all_within` meets its contract: the flag says whether the numbers so far are in range.
use Rattle.std.proofs.Common.{◌≡◌, take}
use Rattle.algebra.specs.All.{all}
use Rattle.polynomial.proofs.range.all_within.Given as goal

abbrev pub invariant-loop-number : goal.invariant-loop-number
invariant-loop-number g l = l.all ≡ all (g.T.Bounded.is_within l.bound) (take l.number-index l.numbers)
