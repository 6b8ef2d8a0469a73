-- `centre_all` meets its contract: one value a turn.
use mathlib.Core.List.{map}
use Prim.Native.Nat.{ℕ}
use lib.ListN.{length, get_or}
use Rattle.algebra.specs.Integer.{centre}
use Rattle.algebra.proofs.Filling.{Filled}
use Rattle.transform.specs.UpFrom.{up_from}
use Rattle.split.proofs.reading.centre_all.Given as goal

abbrev pub invariant-loop-i : goal.invariant-loop-i
invariant-loop-i l =
    Filled (map (λ (k : ℕ). centre (get_or l.values k 0) l.q) (up_from 0 (length l.initial.out))) (length l.initial.out) (length l.initial.out) l.out l.i
