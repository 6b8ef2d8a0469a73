-- `sum_at` meets its contract: the loop adds the products that are left, exactly.
use Rattle.std.proofs.Common.{rules, arith}
use Rattle.polynomial.proofs.Table.{summed_one, sum_read}
use Rattle.polynomial.proofs.evaluation.sum_at.Goals as goal

pub loop-i-preserved : goal.loop-i-preserved
loop-i-preserved c = let small = c.product_at.ensures.small in
    summed_one c.loop-i.invariant (search rules) (search rules) (rw c.product_at.ensures.value at small) (search rules) c.add_mod-k.ensures.value

pub returns : goal.returns
returns c = let l = c.loop-i in
    sum_read c.args.powers.now.usable.sound c.args.powers.now.table.now c.args.powers.now.usable.table c.args.coefficients.now c.requires.coefficients_len.0 c.args.j l.i _
    (omega (arith, l.invariant.below)) l.invariant.value
