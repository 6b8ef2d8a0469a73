-- `powers_twice` meets its contract: one power a turn, at two places.
use mathlib.Core.Path.{◌≡◌, sym, subst}
use native.Mathlib.Omega.{arith}
use lib.ListN.{length}
use Rattle.transform.specs.Asks as asks
use Rattle.transform.proofs.ConvolutionLaws.{twice_more}
use Rattle.split.proofs.SparseLaws.{backwards_at, twice_all}
use Rattle.split.proofs.sparse.powers_twice.Goals as goal

pub loop-i-preserved : goal.loop-i-preserved
loop-i-preserved c =
    twice_more c.loop-i.invariant (omega arith) (omega arith) (sym (backwards_at c.args.powers.now c.args.order.now c.loop-i.i (omega arith)))

pub returns : goal.returns
returns c = let e : c.loop-i.i ≡ length c.args.order.now = omega (arith, c.loop-i.invariant.below) in
    twice_all c.args.powers.now c.args.order.now (subst (asks.Twice _ _ c.loop-i.t) e c.loop-i.invariant)
