-- `four_dots` meets its contract: each turn adds two products to each sum.
use mathlib.Core.Path.{◌≡◌}
use Prim.Native.Nat.{◌+◌, ◌*◌}
use Rattle.split.proofs.ProductLaws.{total}
use Rattle.split.proofs.products.Row.four_dots.Given as goal

abbrev pub invariant-loop-pair : goal.invariant-loop-pair
invariant-loop-pair l =
    (l.s0 ≡ total l.a l.b l.v (2 * l.pair)) × (l.s1 ≡ total l.a l.b (l.v + 1) (2 * l.pair))
    × (l.s2 ≡ total l.a l.b (l.v + 2) (2 * l.pair)) × (l.s3 ≡ total l.a l.b (l.v + 3) (2 * l.pair))
