-- `summed_by_four` meets its contract: each turn adds the next four products.
use Rattle.std.proofs.Common.{◌*◌, length}
use Rattle.polynomial.specs.Asks.{Summed}
use Rattle.polynomial.proofs.evaluation.summed_by_four.Given as goal

abbrev pub invariant-loop-turn : goal.invariant-loop-turn
invariant-loop-turn l = Summed (length l.coefficients) l.powers l.coefficients l.j l.acc l.k (l.turn * 4)
