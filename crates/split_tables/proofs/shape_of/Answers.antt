-- `shape_of` meets its contract: each arm is the definition's.
use mathlib.Core.Path.{refl}
use borrow.Author.Tests.{ne_eqb}
use Rattle.split_tables.specs.Split.{shape_of}
use Rattle.split_tables.proofs.shape_of.Goals as goal

pub returns-in-433 : goal.returns-in-433
unfolding shape_of
returns-in-433 c = rw c.in-433.is

pub returns-in-577 : goal.returns-in-577
unfolding shape_of
returns-in-577 c = rw c.in-577.is

pub returns-in-769 : goal.returns-in-769
unfolding shape_of
returns-in-769 c = rw c.in-769.is

pub returns-in_default : goal.returns-in_default
unfolding shape_of
returns-in_default c = let n = c.args.n in let r = c.in_default.in_default-own.rest in rw (ne_eqb n 433 r.0.0.1, ne_eqb n 577 r.0.1, ne_eqb n 769 r.1) refl
