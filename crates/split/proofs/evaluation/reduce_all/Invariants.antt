-- `reduce_all` meets its contract: one sum a turn.
use mathlib.Core.Path.{◌≡◌}
use mathlib.Core.List.{map}
use Prim.Native.Nat.{ℕ, ◌+◌, ◌%◌}
use lib.ListN.{take, drop}
use Rattle.split.proofs.evaluation.reduce_all.Given as goal

abbrev pub invariant-loop-sum : goal.invariant-loop-sum
invariant-loop-sum l =
    (take l.sum-index l.sum-items ≡ map (λ (s : ℕ). (l.first + s) % l.reducer.q) (take l.sum-index l.initial.sum-items))
    × (drop l.sum-index l.sum-items ≡ drop l.sum-index l.initial.sum-items)
