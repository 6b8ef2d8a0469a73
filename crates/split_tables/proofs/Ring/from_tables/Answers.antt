-- `Ring::from_tables` meets its contract: tables that are a split's pass the test that a `Ring` has.
use native.Mathlib.Omega.{arith}
use Rattle.split_tables.proofs.Passing.{split_passes}
use Rattle.split_tables.proofs.Ring.from_tables.Goals as goal

pub invariant_of-result : goal.invariant_of-result
invariant_of-result c =
    let asked = c.requires.usable in
    record { usable = asked.0; size = omega arith; tables = split_passes c.args.params asked.0.sound c.args.split.now asked.1 }
