-- `lift_all` meets its contract.
use mathlib.Core.Path.{◌≡◌}
use mathlib.Core.List.{map}
use lib.ListN.{take}
use lib.IntN.{ℤ}
use Rattle.algebra.specs.Integer.{residue}
use Rattle.split.proofs.evaluation.lift_all.Given as goal

abbrev pub invariant-loop-i : goal.invariant-loop-i
invariant-loop-i l = take l.i l.out ≡ map (λ (a : ℤ). residue a l.q) (take l.i l.f)
