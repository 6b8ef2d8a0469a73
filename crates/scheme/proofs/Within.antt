-- The range test as a proposition: a bound of each coefficient.
-- Assumes nothing.
use mathlib.Core.List.{List}
use mathlib.Core.Logic.{◌↔◌}
use Prim.Native.Nat.{ℕ, ◌≤◌, ◌<◌}
use lib.Dec.{T, leb, leb→le, le→leb}
use lib.IntN.{ℤ, pos, nat_abs}
use lib.ListN.{length}
use Rattle.algebra.proofs.All.{all_at, all_from}
use Rattle.algebra.specs.Integer.{within}
use Rattle.polynomial.specs.Polynomial.{coefficient}

pub within_iff : (k : ℕ) (z : List ℤ) → T (within k z) ↔ ((i : ℕ) → i < length z → nat_abs (coefficient z i) ≤ k)
within_iff k z = (
  λ t i h. leb→le (nat_abs (coefficient z i)) k (all_at (λ (a : ℤ). leb (nat_abs a) k) z (pos 0) t i h),
  λ l. all_from (λ (a : ℤ). leb (nat_abs a) k) z (pos 0) (λ i h. le→leb (nat_abs (coefficient z i)) k (l i h)),
)
