-- `put_evaluations` has written the first evaluations.
use mathlib.Core.Path.{◌≡◌}
use mathlib.Core.List.{map}
use Prim.Native.Nat.{ℕ, ◌+◌, ◌*◌, ◌≤◌}
use lib.ListN.{length, take}
use Rattle.algebra.specs.Integer.{centre}
use Rattle.text.specs.Text.{spaced_integers, Appended}
use Rattle.session.proofs.rows.put_evaluations.Given as goal

abbrev pub invariant-loop-value : goal.invariant-loop-value
invariant-loop-value l =
    (l.next ≤ l.at + 12 * l.value-index) × (length l.rows ≡ length l.initial.rows)
    × Appended l.initial.rows l.at (spaced_integers (map (λ (v : ℕ). centre v l.q) (take l.value-index l.evaluations))) l.rows l.next
