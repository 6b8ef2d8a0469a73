-- `with_last` meets its contract: the sums have one product more, or are whole.
use mathlib.Core.Path.{◌≡◌, ap, ◌∙◌}
use Prim.Native.Nat.{ℕ, ◌+◌}
use native.Mathlib.Omega.{arith}
use lib.ListN.{length}
use Rattle.split.proofs.ProductLaws.{total, summed_asks, summed_more}
use Rattle.split.proofs.products.Row.with_last.Goals as goal

pub plus_product-requires : goal.plus_product-requires
plus_product-requires c = let r = c.args.self.now in
    summed_asks r.block.now r.row.now r.block_below.0 r.row_below.0 c.args.v c.args.x c.requires.x_le_n.2.0 c.if-x-self.true r.block_below.1 (omega arith)
    c.from-f.ensures (omega arith)

pub plus_product-requires-then-x-self : goal.plus_product-requires-then-x-self
plus_product-requires-then-x-self c = let r = c.args.self.now in
    summed_asks r.block.now r.row.now r.block_below.0 r.row_below.0 (c.args.v + 1) c.args.x c.requires.x_le_n.2.1 c.if-x-self.true r.block_below.1 (omega arith)
    c.from-f.ensures (omega arith)

pub plus_product-requires-then-x-self-2 : goal.plus_product-requires-then-x-self-2
plus_product-requires-then-x-self-2 c = let r = c.args.self.now in
    summed_asks r.block.now r.row.now r.block_below.0 r.row_below.0 (c.args.v + 2) c.args.x c.requires.x_le_n.2.2 c.if-x-self.true r.block_below.1 (omega arith)
    c.from-f.ensures (omega arith)

pub plus_product-requires-then-x-self-3 : goal.plus_product-requires-then-x-self-3
plus_product-requires-then-x-self-3 c = let r = c.args.self.now in
    summed_asks r.block.now r.row.now r.block_below.0 r.row_below.0 (c.args.v + 3) c.args.x c.requires.x_le_n.2.3 c.if-x-self.true r.block_below.1 (omega arith)
    c.from-f.ensures (omega arith)

pub returns-then-x-self : goal.returns-then-x-self
returns-then-x-self c = let r = c.args.self.now in
    let v = c.args.v in
    let x = c.args.x in
    let is = c.requires.x_le_n.2 in
    let all : x + 1 ≡ length r.block.now = omega arith in
    let last = λ (w : ℕ). ap (total r.block.now r.row.now w) all in (
      summed_more r.block.now r.row.now v x is.0 c.from-f.ensures c.plus_product.ensures (omega arith) ∙ last v,
      summed_more r.block.now r.row.now (v + 1) x is.1 c.from-f.ensures c.plus_product-then-x-self.ensures (omega arith) ∙ last (v + 1),
      summed_more r.block.now r.row.now (v + 2) x is.2 c.from-f.ensures c.plus_product-then-x-self-2.ensures (omega arith) ∙ last (v + 2),
      summed_more r.block.now r.row.now (v + 3) x is.3 c.from-f.ensures c.plus_product-then-x-self-3.ensures (omega arith) ∙ last (v + 3),
    )
