-- `place` meets its contract.
use mathlib.Core.Path.{◌≡◌}
use Prim.Native.Nat.{ℕ}
use lib.ListN.{length, get_or}
use Rattle.transform.specs.Asks.{Placed}
use Rattle.split.proofs.evaluation.place.Given as goal

abbrev pub invariant-loop-i : goal.invariant-loop-i
invariant-loop-i l = (length l.out ≡ length l.initial.out) × Placed l.order (λ (k : ℕ). get_or l.values k 0) l.out l.i
