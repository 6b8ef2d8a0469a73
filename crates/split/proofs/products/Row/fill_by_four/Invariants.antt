-- `fill_by_four` meets its contract: four products a turn.
use mathlib.Core.Path.{◌≡◌}
use mathlib.Core.List.{map}
use Prim.Native.Nat.{◌*◌}
use lib.Seq.{sets}
use Rattle.transform.specs.UpFrom.{up_from}
use Rattle.split.proofs.ProductLaws.{product}
use Rattle.split.proofs.products.Row.fill_by_four.Given as goal

abbrev pub invariant-loop-turn : goal.invariant-loop-turn
invariant-loop-turn l =
    l.out ≡ sets l.initial.out 0 (map (product l.reducer.q l.self.block.now l.self.row.now) (up_from 0 (4 * l.turn)))
