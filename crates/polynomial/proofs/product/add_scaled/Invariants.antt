-- `add_scaled` meets its contract: after i turns the sums have the multiple of f's first i coefficients added.
use Rattle.polynomial.proofs.ProductLoops.{Added}
use Rattle.polynomial.proofs.product.add_scaled.Given as goal

abbrev pub invariant-loop-i : goal.invariant-loop-i
invariant-loop-i l = Added l.initial.sums l.f l.a l.sums l.i
