-- `dot` meets its contract: each turn adds one product.
use mathlib.Core.Path.{◌≡◌}
use Rattle.split.proofs.ProductLaws.{total}
use Rattle.split.proofs.products.Row.dot.Given as goal

abbrev pub invariant-loop-x : goal.invariant-loop-x
invariant-loop-x l = l.s ≡ total l.self.block.now l.self.row.now l.v l.x
