-- `summed_by_four` meets its contract: each turn adds the next four products.
use Rattle.std.proofs.Common.{◌≡◌, ◌≤◌, ◌*◌, ◌+◌, rules, arith, length}
use Rattle.polynomial.proofs.Table.{summed_four}
use Rattle.polynomial.proofs.evaluation.summed_by_four.Goals as goal

pub loop-turn-preserved : goal.loop-turn-preserved
loop-turn-preserved c = let more : c.loop-turn.turn * 4 + 4 ≤ length c.args.coefficients.now = search rules in
    let e : (c.loop-turn.turn + 1) * 4 ≡ c.loop-turn.turn * 4 + 4 = omega arith in
    let small = c.four_products.ensures.small in
    rw e
    (summed_four c.loop-turn.invariant c.requires.2 more c.add_mod-j2.ensures.value c.add_mod-j3.ensures.value c.add_mod-j4.ensures.value
    (rw c.four_products.ensures.value at small) (search rules) c.add_mod-k.ensures.value)
