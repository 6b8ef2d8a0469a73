-- What the test of increasing numbers shows.
-- Assumes nothing.
use mathlib.Core.List.{List, [], ◌∷◌}
use Prim.Native.Nat.{ℕ, zero, suc, ◌≤◌, ◌<◌}
use native.Mathlib.Nat.{le_of_suc-le-suc, not-suc-le-zero}
use native.Mathlib.Omega.{arith}
use lib.Dec.{T, ltb, leb, ltb→lt, leb→le}
use lib.ListN.{length, get_or}
use Rattle.algebra.proofs.Test.{and_left, and_right}
use Rattle.encoding.specs.Bytes.{increasing}

-- each is below n
pub increasing_below : (n from : ℕ) (vs : List ℕ) → T (increasing n from vs) → (i : ℕ) → i < length vs → get_or vs i 0 < n
increasing_below n from [] t i h = absurd (not-suc-le-zero h)
increasing_below n from (v ∷ vs) t zero h = ltb→lt v n (and_left (ltb v n) (increasing n (suc v) vs) (and_right (leb from v) _ t))
increasing_below n from (v ∷ vs) t (suc i) h =
    increasing_below n (suc v) vs (and_right (ltb v n) (increasing n (suc v) vs) (and_right (leb from v) _ t)) i (le_of_suc-le-suc h)

-- and at least what the first is
pub increasing_least : (n from : ℕ) (vs : List ℕ) → T (increasing n from vs) → (i : ℕ) → i < length vs → from ≤ get_or vs i 0
increasing_least n from [] t i h = absurd (not-suc-le-zero h)
increasing_least n from (v ∷ vs) t zero h = leb→le from v (and_left (leb from v) _ t)
increasing_least n from (v ∷ vs) t (suc i) h =
    let first = leb→le from v (and_left (leb from v) _ t) in
    let rest = increasing_least n (suc v) vs (and_right (ltb v n) (increasing n (suc v) vs) (and_right (leb from v) _ t)) i (le_of_suc-le-suc h) in
    omega arith
