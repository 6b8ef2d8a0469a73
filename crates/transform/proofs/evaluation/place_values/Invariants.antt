-- `place_values` meets its contract: one value a turn, each at a place of its own.
use mathlib.Core.Path.{◌≡◌}
use mathlib.Core.List.{List}
use Prim.Native.Nat.{ℕ, ◌+◌, ◌≤◌}
use lib.IntN.{ℤ, pos}
use lib.ListN.{length, get_or}
use Rattle.algebra.specs.Integer.{centred}
use Rattle.transform.specs.Asks.{Placed}
use Rattle.transform.proofs.evaluation.place_values.Given as goal

abbrev pub value : ℕ → List ℕ → ℕ → ℕ → ℤ
value first sums q m = centred (pos (first + get_or sums m 0)) q

abbrev pub invariant-loop-m : goal.invariant-loop-m
invariant-loop-m l = (l.m ≤ length l.order) × (length l.out ≡ length l.initial.out) × Placed l.order (value l.first l.sums l.q) l.out l.m
