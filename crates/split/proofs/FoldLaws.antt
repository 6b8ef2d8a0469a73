-- The reduction by multiplications: what is left is below 3 q, and is the same modulo q.
-- Assumes nothing.
use mathlib.Core.Path.{◌≡◌, sym, ap, ◌∙◌}
use Prim.Native.Nat.{ℕ, ◌+◌, ◌-◌, ◌*◌, ◌/◌, ◌%◌, ◌^◌, ◌<◌, ◌≤◌}
use native.Mathlib.Nat.{add-mul, mul-add, mul_assoc, mul_comm, mul-le-mul_left, mul-le-mul_right, div-mul-le_self, lt-div-mul-add, mod-eq_of_lt, mod-eq-sub-mod}
use native.Mathlib.Omega.{arith}
use borrow.Author.Tests.{ltb-true, ltb-false}
use lib.Dec.{ltb}
use lib.IntN.{pos}
use Rattle.algebra.proofs.Congruence.{Cong, cong_sym, residue-eq}
use Rattle.algebra.proofs.Test.{by_test}
use Rattle.split.specs.Fold.{Modulus, inverse, folded, lowered}

module _ {q : ℕ} (modulus : Modulus q) (s : ℕ) (small : s < 2 ^ 51) where
  abbrev a : ℕ
  a = s / 2 ^ 19

  abbrev guess : ℕ
  guess = a * inverse q / 2 ^ 32

  -- a q times what 2^51 leaves is at most a q, below 2^32 q
  inverse_low : inverse q * q ≤ 2 ^ 51
  inverse_low = div-mul-le_self (2 ^ 51) q

  inverse_high : 2 ^ 51 < inverse q * q + q
  inverse_high = lt-div-mul-add (omega (arith, modulus.from))

  a_low : a * 2 ^ 19 ≤ s
  a_low = div-mul-le_self s (2 ^ 19)

  a_high : s < a * 2 ^ 19 + 2 ^ 19
  a_high = lt-div-mul-add (omega arith)

  guess_low : guess * 2 ^ 32 ≤ a * inverse q
  guess_low = div-mul-le_self (a * inverse q) (2 ^ 32)

  guess_high : a * inverse q < guess * 2 ^ 32 + 2 ^ 32
  guess_high = lt-div-mul-add (omega arith)

  -- the guess times q, 2^32 times
  scaled : guess * 2 ^ 32 * q ≡ guess * q * 2 ^ 32
  scaled = mul_assoc guess (2 ^ 32) q ∙ ap (λ (x : ℕ). guess * x) (mul_comm (2 ^ 32) q) ∙ sym (mul_assoc guess q (2 ^ 32))

  pub guess_fits : guess * q ≤ s
  guess_fits =
      let up = mul-le-mul_right q guess_low in
      let whole = mul-le-mul_left a inverse_low in
      omega (arith, up, whole, mul_assoc a (inverse q) q, scaled, a_low)

  pub left_below : s - guess * q < 3 * q
  left_below =
      let less : a * inverse q ≤ guess * 2 ^ 32 + (2 ^ 32 - 1) = omega (arith, guess_high) in
      let up = mul-le-mul_right q less in
      let over : 2 ^ 51 ≤ inverse q * q + q = omega (arith, inverse_high) in
      let whole = mul-le-mul_left a over in
      let few : a ≤ 2 ^ 32 - 1 = omega (arith, a_low) in
      omega (
        arith,
        up,
        whole,
        mul_assoc a (inverse q) q,
        scaled,
        a_high,
        add-mul (guess * 2 ^ 32) (2 ^ 32 - 1) q,
        mul-add a (inverse q * q) q,
        mul-le-mul_right q few,
        modulus.from,
      )

  pub folded_below : folded q s < 3 * q
  folded_below = left_below

  pub folded-cong : Cong q (pos (folded q s)) (pos s)
  folded-cong = cong_sym (record { times = pos guess; is = ap pos (omega (arith, guess_fits, mul_comm guess q)) })

  pub folded_mod : folded q s % q ≡ s % q
  folded_mod = residue-eq (omega (arith, modulus.from)) folded-cong

-- a number below 3 q, taken down twice
pub lowered_twice : (q x : ℕ) → 0 < q → x < 3 * q → lowered q (lowered q x) ≡ x % q
lowered_twice q x positive h =
    by_test (ltb x q)
    (λ t. rw (t, t) (sym (mod-eq_of_lt (ltb-true x q t))))
    (λ t.
    let once : q ≤ x = ltb-false x q t in
    let back : (x - q) % q ≡ x % q = sym (mod-eq-sub-mod once) in
    by_test (ltb (x - q) q)
    (λ u. rw (t, u) (sym (mod-eq_of_lt (ltb-true (x - q) q u)) ∙ back))
    (λ u.
    let twice : q ≤ x - q = ltb-false (x - q) q u in
    rw (t, u) (sym (mod-eq_of_lt (omega arith)) ∙ sym (mod-eq-sub-mod twice) ∙ back)))
