-- `add_scaled` meets its contract: after i turns the sums have the multiple of f's first i coefficients added.
use Rattle.std.proofs.Common.{rules}
use mir.Facts.{to_z-of_z}
use Rattle.polynomial.proofs.ProductLoops.{added_none, added_room, added_small, added_more}
use Rattle.polynomial.proofs.product.add_scaled.Goals as goal

pub loop-i-init : goal.loop-i-init
loop-i-init c = rw (to_z-of_z c.ranges.a) (added_none c.requires)

pub add_product-requires : goal.add_product-requires
add_product-requires c = let s = c.loop-i.invariant in
    let factor = s.addable.factor in
    let room = added_room s c.loop-i-test.true in
    let small = added_small s c.loop-i-test.true in
    search rules

pub loop-i-preserved : goal.loop-i-preserved
loop-i-preserved c = added_more c.loop-i.invariant c.loop-i-test.true (search rules)
