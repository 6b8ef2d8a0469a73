-- The whole commitment into the hash (request #106): under rule 2 the bytes hashed decide the commitment. Two lists of numbers of three bytes, as the
-- evaluations in 0..q-1 of every set are, have the same commitment bytes only where they are equal.
-- Assumes nothing.
use mathlib.Core.Path.{◌≡◌, refl, ap, ap₂}
use mathlib.Core.List.{List, [], ◌∷◌, flatten, head-eq_of_cons-eq, tail-eq_of_cons-eq}
use Prim.Native.Nat.{ℕ, ◌/◌, ◌%◌, ◌^◌, ◌<◌, ◌≤◌}
use native.Mathlib.Omega.{arith}
use lib.Dec.{T, ltb, ltb→lt}
use lib.ListN.{length}
use Rattle.algebra.specs.All.{are_below}
use Rattle.algebra.proofs.Test.{and_left, and_right}
use Rattle.challenge.specs.Pool.{three_byte_rule, commitment_bytes}

-- a number of three bytes by its bytes
three_bytes_decide : (a b : ℕ) → a < 2 ^ 24 → b < 2 ^ 24 → a % 256 ≡ b % 256 → a / 256 % 256 ≡ b / 256 % 256 → a / 256 / 256 % 256 ≡ b / 256 / 256 % 256
    → a ≡ b
three_bytes_decide a b h l first second third = omega arith

pub whole_commitment : {q : ℕ} → q ≤ 2 ^ 24 → (v w : List ℕ) → T (are_below q v) → T (are_below q w)
    → commitment_bytes three_byte_rule v ≡ commitment_bytes three_byte_rule w → v ≡ w
unfolding commitment_bytes flatten
whole_commitment room [] [] h l e = refl
whole_commitment room [] (b ∷ w) h l e = absurd (omega (arith, ap length e))
whole_commitment room (a ∷ v) [] h l e = absurd (omega (arith, ap length e))
whole_commitment {q} room (a ∷ v) (b ∷ w) h l e =
    let second = tail-eq_of_cons-eq e in
    let third = tail-eq_of_cons-eq second in
    let below : (x : ℕ) (xs : List ℕ) → T (are_below q (x ∷ xs)) → x < q = λ x xs t. ltb→lt x q (and_left (ltb x q) (are_below q xs) t) in
    ap₂ ◌∷◌
    (three_bytes_decide a b (omega (arith, room, below a v h)) (omega (arith, room, below b w l)) (head-eq_of_cons-eq e) (head-eq_of_cons-eq second)
    (head-eq_of_cons-eq third))
    (whole_commitment room v w (and_right (ltb a q) (are_below q v) h) (and_right (ltb b q) (are_below q w) l) (tail-eq_of_cons-eq third))
