-- `word_sums` adds one pair of words a turn.
use Rattle.std.proofs.Common.{◌≡◌, sym, refl, ◌∙◌, arith, take_all, rules}
use Rattle.sha512.specs.Compression.{sums}
use Rattle.sha512.proofs.Steps.{sums_more}
use Rattle.sha512.proofs.compression.word_sums.Goals as goal

pub loop-i-init : goal.loop-i-init
unfolding sums
loop-i-init c = (search rules, refl)

pub loop-i-preserved : goal.loop-i-preserved
loop-i-preserved c = let l = c.loop-i in (search rules, sums_more l.r c.args.s c.args.h l.i (omega arith) l.invariant.1 refl)

pub returns : goal.returns
returns c = let l = c.loop-i in
    let e : l.i ≡ 8 = omega arith in
    sym (take_all 8 l.r (omega arith)) ∙ rw e at l.invariant.1
