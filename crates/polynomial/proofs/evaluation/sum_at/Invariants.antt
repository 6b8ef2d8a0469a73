-- `sum_at` meets its contract: the loop adds the products that are left, exactly.
use Rattle.std.proofs.Common.{length}
use Rattle.polynomial.specs.Asks.{Summed}
use Rattle.polynomial.proofs.evaluation.sum_at.Given as goal

abbrev pub invariant-loop-i : goal.invariant-loop-i
invariant-loop-i l = Summed (length l.coefficients) l.powers.table.now l.coefficients l.j l.acc l.k l.i
