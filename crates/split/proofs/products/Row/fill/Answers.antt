-- `fill` meets its contract: the products by fours and the rest are all.
use lib.ListN.{length}
use Rattle.split.proofs.ProductLaws.{product, sets_rest, sets_all}
use Rattle.split.proofs.products.Row.fill.Goals as goal

pub returns : goal.returns
returns c = let r = c.args.self.now in
    let f = product c.args.reducer.q r.block.now r.row.now in
    let four = c.fill_by_four-n in
    sets_all f c.args.out.now c.requires
    (sets_rest f c.args.out.now four.result (length r.block.now) four.ensures.few four.ensures.filled c.fill_singly.ensures)
