-- `add_mask` meets its contract: the loop writes one coefficient of the sum a turn.
use Rattle.std.proofs.Common.{rules, pos, arith}
use Rattle.algebra.proofs.Filling.{filled_none, filled_more, filled_all}
use Rattle.polynomial.proofs.Linear.{length-add, coefficient-add}
use Rattle.polynomial.proofs.product.add_mask.Goals as goal

pub loop-i-init : goal.loop-i-init
loop-i-init c = let s = c.args in filled_none (omega (arith, length-add s.sums.now s.y.now, c.requires.0)) (search rules)

pub loop-i-preserved : goal.loop-i-preserved
loop-i-preserved c = let l = c.loop-i in
    let sum = coefficient-add c.args.sums.now c.args.y.now l.i in
    filled_more l.invariant (pos 0) (omega arith) (omega arith) (search rules)

pub returns : goal.returns
returns c = let l = c.loop-i in filled_all l.invariant (omega arith) (omega arith)
