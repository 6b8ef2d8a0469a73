-- `split_of` meets its contract: each arm's table passes the test of its set, and begins with the powers of its least generator.
use mathlib.Core.Path.{◌≡◌, refl}
use native.Mathlib.Omega.{arith}
use borrow.Author.Tests.{ltb-true}
use Rattle.parameters.specs.Sets.{sets, set_of}
use Rattle.transform.specs.Generator.{generators, generator_of}
use Rattle.split_tables.specs.Split.{shape_of}
use Rattle.split_tables.specs.Test.{twist_tests, plus_times, combined, is_orbit, row_tests, split_tests, has_split}
use Rattle.split_tables.proofs.SetTables.{arm_passes, arm_least}
use Rattle.split_tables.proofs.making.split_of.Goals as goal

pub returns-in-0 : goal.returns-in-0
unfolding sets set_of generators generator_of shape_of twist_tests plus_times combined is_orbit row_tests split_tests has_split
returns-in-0 c = record { passes = arm_passes 0 c.in-0.is _ refl; least = arm_least 0 c.in-0.is _ tt }

pub returns-in-1 : goal.returns-in-1
unfolding sets set_of generators generator_of shape_of twist_tests plus_times combined is_orbit row_tests split_tests has_split
returns-in-1 c = record { passes = arm_passes 1 c.in-1.is _ refl; least = arm_least 1 c.in-1.is _ tt }

pub returns-in-2 : goal.returns-in-2
unfolding sets set_of generators generator_of shape_of twist_tests plus_times combined is_orbit row_tests split_tests has_split
returns-in-2 c = record { passes = arm_passes 2 c.in-2.is _ refl; least = arm_least 2 c.in-2.is _ tt }

pub returns-in-3 : goal.returns-in-3
unfolding sets set_of generators generator_of shape_of twist_tests plus_times combined is_orbit row_tests split_tests has_split
returns-in-3 c = record { passes = arm_passes 3 c.in-3.is _ refl; least = arm_least 3 c.in-3.is _ tt }

pub returns-in_default : goal.returns-in_default
unfolding sets set_of generators generator_of shape_of twist_tests plus_times combined is_orbit row_tests split_tests has_split
returns-in_default c = let last : c.args.set ≡ 4 = omega (arith, ltb-true c.args.set 5 c.requires) in record { passes = arm_passes 4 last _ refl; least = arm_least 4 last _ tt }
