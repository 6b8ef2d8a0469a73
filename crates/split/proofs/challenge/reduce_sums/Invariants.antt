-- `reduce_sums` meets its contract.
use mathlib.Core.Path.{◌≡◌}
use mathlib.Core.List.{map}
use lib.ListN.{take}
use lib.IntN.{ℤ, ◌+ℤ◌}
use Rattle.algebra.specs.Integer.{residue}
use Rattle.split.proofs.challenge.reduce_sums.Given as goal

abbrev pub invariant-loop-i : goal.invariant-loop-i
invariant-loop-i l = take l.i l.out ≡ map (λ (s : ℤ). residue (l.first +ℤ s) l.reducer.q) (take l.i l.sums)
