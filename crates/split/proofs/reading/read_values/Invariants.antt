-- `read_values` meets its contract.
use mathlib.Core.Path.{◌≡◌}
use mathlib.Core.List.{map}
use lib.ListN.{take, get_or}
use Prim.Native.Nat.{ℕ, ◌-◌}
use Rattle.split.proofs.reading.read_values.Given as goal

abbrev pub invariant-loop-i : goal.invariant-loop-i
invariant-loop-i l = take l.i l.out ≡ map (λ (e : ℕ). get_or l.values (e - 1) 0) (take l.i l.exponents)
