-- `reordered_coefficients` meets its contract: one coefficient a turn.
use mathlib.Core.List.{List, map}
use Prim.Native.Nat.{ℕ, ◌-◌, ◌%◌}
use lib.IntN.{ℤ}
use lib.ListN.{length, get_or}
use Rattle.algebra.specs.Integer.{residue}
use Rattle.algebra.proofs.Filling.{Filled}
use Rattle.parameters.specs.Limits.{max_n}
use Rattle.polynomial.specs.Polynomial.{coefficient}
use Rattle.transform.specs.UpFrom.{up_from}
use Rattle.transform.proofs.evaluation.reordered_coefficients.Given as goal

-- what is stored at i
abbrev pub value : ℕ → List ℤ → List ℕ → ℕ → ℕ
value q f t i = residue (coefficient f (get_or t ((length t - i) % length t) 0)) q

abbrev pub invariant-loop-i : goal.invariant-loop-i
invariant-loop-i l = Filled (map (value l.q l.coefficients l.order) (up_from 0 (length l.order))) (length l.order) max_n l.out l.i
