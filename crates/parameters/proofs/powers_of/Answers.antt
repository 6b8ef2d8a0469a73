-- `powers_of` meets its contract: each arm's table passes the test of its set.
use mathlib.Core.Path.{◌≡◌, refl}
use native.Mathlib.Omega.{arith}
use borrow.Author.Tests.{ltb-true}
use Rattle.parameters.specs.Sets.{sets, set_of}
use Rattle.parameters.proofs.Tables.{arm}
use Rattle.parameters.proofs.powers_of.Goals as goal

pub returns-in-0 : goal.returns-in-0
unfolding sets set_of
returns-in-0 c = arm 0 c.in-0.is _ refl

pub returns-in-1 : goal.returns-in-1
unfolding sets set_of
returns-in-1 c = arm 1 c.in-1.is _ refl

pub returns-in-2 : goal.returns-in-2
unfolding sets set_of
returns-in-2 c = arm 2 c.in-2.is _ refl

pub returns-in-3 : goal.returns-in-3
unfolding sets set_of
returns-in-3 c = arm 3 c.in-3.is _ refl

pub returns-in_default : goal.returns-in_default
unfolding sets set_of
returns-in_default c = let last : c.args.set ≡ 4 = omega (arith, ltb-true c.args.set 5 c.requires) in arm 4 last _ refl
