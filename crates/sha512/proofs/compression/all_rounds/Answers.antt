-- `all_rounds` does four rounds a turn.
use Rattle.std.proofs.Common.{◌≡◌, ◌+◌, ◌*◌, refl, arith}
use Rattle.sha512.specs.Compression.{rounds}
use Rattle.sha512.proofs.Steps.{round_more}
use Rattle.sha512.proofs.compression.all_rounds.Goals as goal

pub loop-turn-init : goal.loop-turn-init
unfolding rounds
loop-turn-init c = refl

pub loop-turn-preserved : goal.loop-turn-preserved
loop-turn-preserved c = let h = c.args.h in
    let w = c.args.w.now in
    let t = 4 * c.loop-turn.turn in
    let e1 = round_more t (t + 1) w h _ refl c.loop-turn.invariant c.one_round-s1.ensures in
    let e2 = round_more (t + 1) (t + 2) w h _ (omega arith) e1 c.one_round-s2.ensures in
    let e3 = round_more (t + 2) (t + 3) w h _ (omega arith) e2 c.one_round-s3.ensures in
    round_more (t + 3) _ w h _ (omega arith) e3 c.one_round-s.ensures

pub returns : goal.returns
returns c = let e : 4 * c.loop-turn.turn ≡ 80 = omega arith in rw e at c.loop-turn.invariant
