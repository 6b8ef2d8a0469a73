-- `read_centred` meets its contract.
use mathlib.Core.Path.{◌≡◌}
use mathlib.Core.List.{map}
use lib.ListN.{take, get_or}
use Prim.Native.Nat.{ℕ, ◌-◌}
use Rattle.algebra.specs.Integer.{centre}
use Rattle.split.proofs.reading.read_centred.Given as goal

abbrev pub invariant-loop-i : goal.invariant-loop-i
invariant-loop-i l = take l.i l.out ≡ map (λ (e : ℕ). centre (get_or l.values (e - 1) 0) l.q) (take l.i l.exponents)
