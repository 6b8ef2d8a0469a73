-- `first_outside` meets its contract: so far all are passed over.
use Rattle.std.proofs.Common.{◌-◌, length}
use Rattle.polynomial.proofs.RangeLoops.{Passed}
use Rattle.polynomial.proofs.range.first_outside.Given as goal

abbrev pub invariant-loop-start : goal.invariant-loop-start
invariant-loop-start g l = Passed (g.T.Bounded.is_within l.bound) l.numbers l.start

abbrev pub decreases-loop-start : goal.decreases-loop-start
decreases-loop-start g l = length l.numbers - l.start
