-- `fill_singly` meets its contract: one product a turn.
use Prim.Native.Nat.{◌+◌, ◌-◌}
use native.Mathlib.Omega.{arith}
use Rattle.split.proofs.ProductLaws.{product, product_is, summed_small, stored_more}
use Rattle.split.proofs.products.Row.fill_singly.Goals as goal

pub fold-requires : goal.fold-requires
fold-requires c = let r = c.args.self.now in
    summed_small r.block.now r.row.now r.block_below.0 r.row_below.0 _ _ c.dot.ensures (omega arith) r.block_below.1 (omega arith)

pub loop-v-preserved : goal.loop-v-preserved
loop-v-preserved c = let r = c.args.self.now in
    let v = c.loop-v.v in
    let n = c.args.n in
    stored_more (product c.args.reducer.q r.block.now r.row.now) c.args.out.now n n (v - n) {m = v + 1 - n} c.loop-v.invariant
    (product_is c.args.reducer.q r.block.now r.row.now (n + (v - n)) c.fold.ensures.value c.dot.ensures (omega arith)) (omega arith) (omega arith)
