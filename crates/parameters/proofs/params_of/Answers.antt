-- `params_of` meets its contract: the constant table is the document's, and behind it all is 0.
use mathlib.Core.Path.{refl, sym}
use Rattle.parameters.specs.Sets.{sets, set_of}
use Rattle.parameters.proofs.Sound.{no_set}
use Rattle.parameters.proofs.params_of.Goals as goal

pub returns-then-at-lt5 : goal.returns-then-at-lt5
unfolding sets set_of
returns-then-at-lt5 c = refl

pub returns-else-at-lt5 : goal.returns-else-at-lt5
unfolding sets set_of
returns-else-at-lt5 c = sym (no_set _ c.if-at-lt5.false)
