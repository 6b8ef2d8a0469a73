-- `place_values` meets its contract: one value a turn, each at a place of its own.
use Rattle.std.proofs.Common.{ℕ, rules, arith, sym, subst}
use Rattle.transform.specs.Asks.{Places}
use Rattle.transform.proofs.Placing.{placed_more}
use Rattle.transform.proofs.evaluation.place_values.Goals as goal

pub loop-m-preserved : goal.loop-m-preserved
loop-m-preserved c = let l = c.loop-m in
    let places = subst (λ (n : ℕ). Places n c.args.order.now) (sym l.invariant.1) c.requires.sums_len.2 in (
      omega arith,
      search rules,
      placed_more l.invariant.2 places (omega arith) (search rules),
    )
