-- `multiply` meets its contract: a row a turn.
use mathlib.Core.Path.{◌≡◌}
use Prim.Native.Nat.{◌*◌}
use lib.ListN.{length}
use Rattle.split.specs.Levels.{UnderIn}
use Rattle.split.specs.Products.{Products}
use Rattle.split.proofs.products.multiply.Given as goal

abbrev pub invariant-loop-s : goal.invariant-loop-s
invariant-loop-s l =
    (length l.y ≡ length l.initial.y) × UnderIn (3 * l.stages.reducer.q) l.y 0 (l.s * l.stages.l)
    × Products l.stages.reducer.q l.s l.stages.l l.x l.stages.rows.now l.y
