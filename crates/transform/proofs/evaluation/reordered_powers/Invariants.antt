-- `reordered_powers` meets its contract: one power a turn.
use mathlib.Core.List.{map}
use Prim.Native.Nat.{ℕ}
use lib.ListN.{length, get_or}
use Rattle.algebra.proofs.Filling.{Filled}
use Rattle.parameters.specs.Limits.{max_n}
use Rattle.transform.proofs.evaluation.reordered_powers.Given as goal

abbrev pub invariant-loop-i : goal.invariant-loop-i
invariant-loop-i l = Filled (map (λ (e : ℕ). get_or l.powers e 0) l.order) (length l.order) max_n l.out l.i
