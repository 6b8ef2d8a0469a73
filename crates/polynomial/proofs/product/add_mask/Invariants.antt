-- `add_mask` meets its contract: the loop writes one coefficient of the sum a turn.
use Rattle.std.proofs.Common.{length}
use Rattle.algebra.proofs.Filling.{Filled}
use Rattle.polynomial.specs.Polynomial.{add}
use Rattle.polynomial.proofs.product.add_mask.Given as goal

abbrev pub invariant-loop-i : goal.invariant-loop-i
invariant-loop-i l = Filled (add l.sums l.y) (length l.y) (length l.y) l.z l.i
