-- `reduce_sum` meets its contract: 4096 q is above 2^31, and the sum is below it without its sign, so that what is reduced is a natural number.
use mathlib.Core.Path.{◌∙◌}
use Rattle.split.proofs.ChallengeLaws.{lifted_read}
use Rattle.split.proofs.challenge.reduce_sum.Goals as goal

pub returns : goal.returns
returns c =
    c.reduce.ensures
    ∙ lifted_read c.args.reducer.sound.0 c.ranges.a c.ranges.s c.requires c.from.ensures c.from-2.ensures c.from-3.ensures
