-- `add_star` meets its contract: after i turns the sums have the product with the challenge's first i coefficients added.
use Rattle.polynomial.proofs.ProductLoops.{Multiplied}
use Rattle.polynomial.proofs.product.add_star.Given as goal

abbrev pub invariant-loop-i : goal.invariant-loop-i
invariant-loop-i l = Multiplied l.f l.c l.initial.sums l.sums l.i
