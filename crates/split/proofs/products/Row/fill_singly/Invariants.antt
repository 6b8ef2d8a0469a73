-- `fill_singly` meets its contract: one product a turn.
use mathlib.Core.Path.{◌≡◌}
use mathlib.Core.List.{map}
use Prim.Native.Nat.{◌-◌}
use lib.Seq.{sets}
use Rattle.transform.specs.UpFrom.{up_from}
use Rattle.split.proofs.ProductLaws.{product}
use Rattle.split.proofs.products.Row.fill_singly.Given as goal

abbrev pub invariant-loop-v : goal.invariant-loop-v
invariant-loop-v l =
    l.out ≡ sets l.initial.out l.n (map (product l.reducer.q l.self.block.now l.self.row.now) (up_from l.n (l.v - l.n)))
