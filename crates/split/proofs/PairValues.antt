-- What a pair is taken to at a level, modulo q: sums with the twists of the two halves.
-- Assumes nothing.
use mathlib.Core.Path.{◌≡◌, refl, sym, ap}
use Prim.Native.Nat.{ℕ, ◌+◌, ◌-◌, ◌*◌, ◌^◌, ◌<◌, ◌≤◌}
use native.Mathlib.Nat.{mul_comm}
use native.Mathlib.Omega.{arith}
use lib.IntN.{ℤ, pos, ◌+ℤ◌, ◌*ℤ◌, neg_ℤ}
use Rattle.algebra.proofs.Congruence.{Cong, cong_refl, cong-eq, cong_sym, cong_trans, cong-add, cong-mul, cong-neg}
use Rattle.algebra.proofs.Remainder.{product_below}
use Rattle.algebra.proofs.Ring.{ring}
use Rattle.split.specs.Fold.{Modulus, folded}
use Rattle.split.specs.Levels.{cut_low, cut_high, join_high, third_high}
use Rattle.split.proofs.FoldLaws.{folded-cong, folded_below}

move : (a f w : ℤ) → a +ℤ f ≡ w → a ≡ neg_ℤ f +ℤ w
move a f w h = simp (sym h, ring)

-- a multiple of q less n is -n
less_multiple : (q k n : ℕ) → n ≤ k * q → Cong q (pos (k * q - n)) (neg_ℤ (pos n))
less_multiple q k n h =
    let whole : k * q - n + n ≡ q * k = omega (arith, mul_comm k q) in
    record { times = pos k; is = move (pos (k * q - n)) (pos n) (pos q *ℤ pos k) (ap pos whole) }

neg_times : (c b : ℤ) → neg_ℤ (c *ℤ b) ≡ neg_ℤ c *ℤ b
neg_times c b = simp ring

-- a twist times a number, which are read as w and z
pub twist_product : {q c w z : ℕ} → Modulus q → c < q → w ≡ c → z < 128 * q → w * z < 2 ^ 47
twist_product modulus c-below is z-below =
    product_below {m = 2 ^ 20} {n = 2 ^ 27} (omega (arith, is, c-below, modulus.to)) (omega (arith, z-below, modulus.to))

module _ {q : ℕ} (modulus : Modulus q) (c a b : ℕ) (c-below : c < q) (a-below : a < 61 * q) (b-below : b < 61 * q) where
  product_small : c * b < 2 ^ 51
  product_small = omega (arith, twist_product {z = b} modulus c-below refl (omega arith))

  turned : Cong q (pos (folded q (c * b))) (pos c *ℤ pos b)
  turned = folded-cong modulus (c * b) product_small

  -- the negative of the twist
  other : Cong q (pos (q - c)) (neg_ℤ (pos c))
  other = let e : 1 * q - c ≡ q - c = omega arith in cong_trans (cong-eq (ap pos (sym e))) (less_multiple q 1 c (omega arith))

  pub cut_low_lem : Cong q (pos (cut_low q c a b)) (pos a +ℤ pos c *ℤ pos b)
  cut_low_lem = cong-add (cong_refl (pos a)) turned

  pub cut_high_lem : Cong q (pos (cut_high q c a b)) (pos a +ℤ pos (q - c) *ℤ pos b)
  cut_high_lem =
      let below = folded_below modulus (c * b) product_small in
      cong-add (cong_refl (pos a))
      (cong_trans (less_multiple q 3 (folded q (c * b)) (omega arith))
      (cong_trans (cong-neg turned)
      (cong_trans (cong-eq (neg_times (pos c) (pos b))) (cong-mul (cong_sym other) (cong_refl (pos b))))))

  -- a cut adds less than 3 q, and a joining gives no more than the sum of both and 3 q
  pub cut_grows : {n : ℕ} → a < n → (cut_low q c a b < n + 3 * q) × (cut_high q c a b < n + 3 * q)
  cut_grows h = let below = folded_below modulus (c * b) product_small in (omega arith, omega arith)

  join_product : c * (a + (64 * q - b)) < 2 ^ 51
  join_product = omega (arith, twist_product {z = a + (64 * q - b)} modulus c-below refl (omega arith))

  pub join_high_below : join_high q c a b < 3 * q
  join_high_below = folded_below modulus (c * (a + (64 * q - b))) join_product

  spread : (c a d : ℤ) → c *ℤ (a +ℤ d) ≡ c *ℤ a +ℤ c *ℤ d
  spread c a d = simp ring

  over : (c b : ℤ) → c *ℤ neg_ℤ b ≡ neg_ℤ c *ℤ b
  over c b = simp ring

  pub join_high_lem : Cong q (pos (join_high q c a b)) (pos c *ℤ pos a +ℤ pos (q - c) *ℤ pos b)
  join_high_lem =
      cong_trans (folded-cong modulus (c * (a + (64 * q - b))) join_product)
      (cong_trans (cong-mul (cong_refl (pos c)) (cong-add (cong_refl (pos a)) (less_multiple q 64 b (omega arith))))
      (cong_trans (cong-eq (spread (pos c) (pos a) (neg_ℤ (pos b))))
      (cong-add (cong_refl (pos c *ℤ pos a)) (cong_trans (cong-eq (over (pos c) (pos b))) (cong-mul (cong_sym other) (cong_refl (pos b)))))))

module _ {q : ℕ} (modulus : Modulus q) (c d a b e : ℕ) (c-below : c < q) (d-below : d < q) (a-below : a < 61 * q) (b-below : b < 61 * q)
    (e-below : e < 61 * q) where
  third_small : a + c * b + d * e < 2 ^ 51
  third_small =
      omega (
        arith,
        twist_product {z = b} modulus c-below refl (omega arith),
        twist_product {z = e} modulus d-below refl (omega arith),
        modulus.to,
      )

  pub third_high_lem : Cong q (pos (third_high q c d a b e)) (pos a +ℤ pos c *ℤ pos b +ℤ pos d *ℤ pos e)
  third_high_lem = folded-cong modulus (a + c * b + d * e) third_small

  pub third_high_below : third_high q c d a b e < 3 * q
  third_high_below = folded_below modulus (a + c * b + d * e) third_small
