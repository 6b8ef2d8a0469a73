-- `Powers::from_table` meets its contract: what a `Powers` has to be is what was asked.
use native.Mathlib.Omega.{arith}
use Rattle.parameters.proofs.Powers.from_table.Goals as goal

pub invariant_of-result : goal.invariant_of-result
invariant_of-result c = record { usable = c.requires.usable; size = omega arith }
