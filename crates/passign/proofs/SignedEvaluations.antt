-- The signed form in the five sets: an integer is the evaluation at an exponent exactly when it is in -(q-1)/2..(q-1)/2 and has the sum's remainder, so both
-- ends are reached and neither is passed.
-- Assumes nothing.
use mathlib.Core.Path.{◌≡◌}
use mathlib.Core.List.{List}
use mathlib.Core.Logic.{◌↔◌}
use Prim.Native.Nat.{ℕ, ◌-◌, ◌/◌, ◌≤◌, ◌<◌}
use lib.IntN.{ℤ, nat_abs}
use Rattle.algebra.specs.Integer.{residue}
use Rattle.parameters.specs.Sets.{set_of}
use Rattle.parameters.proofs.Sound.{set_sound, set_odd}
use Rattle.polynomial.specs.Evaluation.{sum_at, evaluation, evaluation_residue}
use Rattle.polynomial.proofs.SignedForm.{evaluation_exact}

pub signed_evaluations : (s : ℕ) → s < 5 → (f : List ℤ) (j : ℕ) (e : ℤ)
    → (evaluation (set_of s) f j ≡ e) ↔ ((nat_abs e ≤ ((set_of s).q - 1) / 2) × (residue e (set_of s).q ≡ residue (sum_at (set_of s) f j) (set_of s).q))
unfolding evaluation_residue
signed_evaluations s h = evaluation_exact (set_sound s h) (set_odd s h)
