-- `dot` meets its contract: each turn adds one product.
use mathlib.Core.Path.{refl}
use native.Mathlib.Omega.{arith}
use Rattle.split.proofs.ProductLaws.{total_none, summed_asks, summed_more}
use Rattle.split.proofs.products.Row.dot.Goals as goal

pub loop-x-init : goal.loop-x-init
loop-x-init c = let r = c.args.self.now in total_none r.block.now r.row.now c.args.v

pub plus_product-s-requires : goal.plus_product-s-requires
plus_product-s-requires c = let r = c.args.self.now in
    summed_asks r.block.now r.row.now r.block_below.0 r.row_below.0 c.args.v c.loop-x.x c.loop-x.invariant c.loop-x-test.true r.block_below.1 (omega arith)
    c.from.ensures refl

pub loop-x-preserved : goal.loop-x-preserved
loop-x-preserved c = let r = c.args.self.now in
    summed_more r.block.now r.row.now c.args.v c.loop-x.x c.loop-x.invariant c.from.ensures c.plus_product-s.ensures refl
