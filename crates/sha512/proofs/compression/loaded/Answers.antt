-- `loaded` loads one word of the block a turn.
use Rattle.std.proofs.Common.{◌≡◌, refl, arith, rules}
use Rattle.sha512.specs.Compression.{words}
use Rattle.sha512.proofs.Steps.{words_more}
use Rattle.sha512.proofs.compression.loaded.Goals as goal

pub loop-t-init : goal.loop-t-init
unfolding words
loop-t-init c = (search rules, refl)

pub loop-t-preserved : goal.loop-t-preserved
loop-t-preserved c = (search rules, words_more _ _ _ (omega arith) c.loop-t.invariant.1 c.word_at.ensures)

pub returns : goal.returns
returns c = let e : c.loop-t.t ≡ 16 = omega arith in rw e at c.loop-t.invariant.1
