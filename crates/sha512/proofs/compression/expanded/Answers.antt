-- `expanded` adds four words to the schedule a turn.
use Rattle.std.proofs.Common.{◌≡◌, ◌+◌, ◌*◌, take, sym, refl, ◌∙◌, arith, take_all, rules}
use Rattle.sha512.specs.Compression.{expand}
use Rattle.sha512.proofs.Steps.{expand_more}
use Rattle.sha512.proofs.compression.expanded.Goals as goal

pub loop-turn-init : goal.loop-turn-init
unfolding expand
loop-turn-init c = (search rules, refl)

pub loop-turn-preserved : goal.loop-turn-preserved
loop-turn-preserved c = let t = 4 * c.loop-turn.turn in
    let m = take 16 c.args.first in
    let i1 = expand_more t (t + 1) _ m refl (omega arith) (omega arith) c.loop-turn.invariant c.next_word.ensures in
    let i2 = expand_more (t + 1) (t + 2) _ m (omega arith) (omega arith) (omega arith) i1 c.next_word-in-loop-turn.ensures in
    let i3 = expand_more (t + 2) (t + 3) _ m (omega arith) (omega arith) (omega arith) i2 c.next_word-in-loop-turn-2.ensures in
    expand_more (t + 3) _ _ m (omega arith) (omega arith) (omega arith) i3 c.next_word-in-loop-turn-3.ensures

pub returns : goal.returns
returns c = let l = c.loop-turn in
    let e : 4 * l.turn ≡ 80 = omega arith in
    sym (take_all 80 l.w (omega arith)) ∙ rw e at l.invariant.1
