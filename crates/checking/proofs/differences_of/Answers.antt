-- `differences_of` meets its contract: the loop works out one difference a turn.
use borrow.Author.Rules.{rules}
use native.Mathlib.Omega.{arith}
use Rattle.checking.proofs.Recovery.{differences_more}
use Rattle.checking.proofs.differences_of.Goals as goal

pub loop-i-preserved : goal.loop-i-preserved
loop-i-preserved c = let s = c.args in
    let l = c.loop-i in
    let more = differences_more s.q s.z.now s.public.now s.challenge.now l.i l.out c.difference.result (omega arith) c.requires.evaluations_size c.requires.challenge_size in (
      search rules,
      more (omega (arith, l.invariant.0, c.requires.size)) c.difference.ensures l.invariant.1,
    )
