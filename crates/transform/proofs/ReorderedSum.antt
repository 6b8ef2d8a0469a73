-- The sum of an evaluation in the order of a generator's powers, where N is any number above 1 that has a generator r: modulo q it is coefficient 0 plus
-- a cyclic convolution of length N - 1. Rader.antt has the statement for readers.
-- Assumes nothing.
use mathlib.Core.Path.{◌≡◌, sym, ap, ap₂, ◌∙◌}
use mathlib.Core.Logic.{◌≢◌}
use mathlib.Core.List.{List}
use Prim.Native.Nat.{ℕ, zero, suc, ◌+◌, ◌-◌, ◌*◌, ◌^◌, ◌%◌, ◌<◌}
use native.Mathlib.Nat.{mod-lt, mod-mod, mod_self, mod-eq_of_lt, mul_comm, zero-mul, pow-zero}
use native.Mathlib.Omega.{arith}
use lib.IntN.{ℤ, pos, ◌+ℤ◌, ◌*ℤ◌}
use lib.ListN.{length}
use Rattle.algebra.specs.Integer.{sum}
use Rattle.algebra.proofs.Congruence.{Cong, cong_refl, cong-eq, cong_trans, cong-add, cong-mul, eq-residue}
use Rattle.algebra.proofs.Remainder.{mod-mul_left, pow_round}
use Rattle.algebra.proofs.Ring.{*ℤ_idr}
use Rattle.algebra.proofs.Sum.{sum-cong, sum_same, sum_front}
use Rattle.parameters.specs.declared.Params.{Params}
use Rattle.parameters.specs.Sound.{Sound}
use Rattle.polynomial.specs.Polynomial.{coefficient}
use Rattle.polynomial.specs.Evaluation.{term, sum_at}
use Rattle.transform.specs.Generator.{Generator}
use Rattle.transform.specs.Convolution.{cyclic}
use Rattle.transform.specs.Reordering.{reordered_coefficients, reordered_powers, reordered_sum}
use Rattle.transform.proofs.Permutation.{apart_takes_each, sum_in_order}
use Rattle.transform.proofs.GeneratorLaws.{pow-mul-mod, power_positive, place_below, each_place}

-- a power of r goes by its exponent modulo n - 1
pub r_round : {r n : ℕ} → 1 < n → Generator r n → (x : ℕ) → r ^ (x % (n - 1)) % n ≡ r ^ x % n
r_round {r} {n} several gen x = pow_round r n (n - 1) (gen.round ∙ sym (mod-eq_of_lt several)) x

module _ {p : Params} {r : ℕ} (sound : Sound p) (several : 1 < p.n) (gen : Generator r p.n) where
  positive : 0 < p.q
  positive = omega (arith, sound.modulus)

  -- a power of g goes by its exponent modulo N
  pub g_round : (x y : ℕ) → x % p.n ≡ y % p.n → Cong p.q (pos (p.g ^ x)) (pos (p.g ^ y))
  g_round x y e =
      let round = pow_round p.g p.q p.n (sound.cyclic ∙ sym (mod-eq_of_lt sound.modulus)) in
      eq-residue positive {a = pos (p.g ^ x)} {b = pos (p.g ^ y)} (sym (round x) ∙ ap (λ (k : ℕ). p.g ^ k % p.q) e ∙ round y)

  module _ (f : List ℤ) (size : length f ≡ p.n) (m : ℕ) where
    -- the sum with both sequences read forwards
    abbrev pub forwards : ℕ → ℤ
    forwards i = coefficient f (r ^ i % p.n) *ℤ reordered_powers r p (i + m)

    module _ (j : ℕ) (at : j % p.n ≡ r ^ m % p.n) where
      first_term : term p f j 0 ≡ coefficient f 0
      first_term = ap (λ (e : ℕ). coefficient f 0 *ℤ pos (p.g ^ e)) (zero-mul j) ∙ rw pow-zero (*ℤ_idr (coefficient f 0))

      -- exponent r to the i times exponent r to the m
      exponents : (i : ℕ) → (r ^ i % p.n) * j % p.n ≡ r ^ (i + m) % p.n % p.n
      exponents i =
          ap (λ (x : ℕ). x % p.n) (mul_comm (r ^ i % p.n) j)
          ∙ sym (mod-mul_left j (r ^ i % p.n) p.n)
          ∙ ap (λ (x : ℕ). x * (r ^ i % p.n) % p.n) at
          ∙ ap (λ (x : ℕ). x % p.n) (mul_comm (r ^ m % p.n) (r ^ i % p.n))
          ∙ pow-mul-mod r i m p.n
          ∙ sym (mod-mod (r ^ (i + m)) p.n)

      one_term : (i : ℕ) → i < p.n - 1 → Cong p.q (term p f j (suc (r ^ i % p.n - 1))) (forwards i)
      one_term i l =
          let e : suc (r ^ i % p.n - 1) ≡ r ^ i % p.n = omega (arith, power_positive r several gen.round i (omega arith)) in
          cong_trans (cong-eq (ap (term p f j) e))
          (cong-mul (cong_refl (coefficient f (r ^ i % p.n))) (g_round ((r ^ i % p.n) * j) (r ^ (i + m) % p.n) (exponents i)))

      -- the terms 1 .. N - 1 in the order of r's powers
      in_order : sum (λ (i : ℕ). term p f j (suc (r ^ i % p.n - 1))) (p.n - 1) ≡ sum (λ (i : ℕ). term p f j (suc i)) (p.n - 1)
      in_order =
          sum_in_order (λ (i : ℕ). r ^ i % p.n - 1) (p.n - 1) (place_below r several gen.round) (each_place several gen) (λ (i : ℕ). term p f j (suc i))

      pub sum-forwards : Cong p.q (sum_at p f j) (coefficient f 0 +ℤ sum forwards (p.n - 1))
      sum-forwards =
          let e : length f ≡ suc (p.n - 1) = omega (arith, size) in
          cong_trans
          (cong-eq (ap (sum (term p f j)) e ∙ sum_front (term p f j) (p.n - 1) ∙ ap₂ ◌+ℤ◌ first_term (sym in_order)))
          (cong-add (cong_refl (coefficient f 0)) (sum-cong (λ (i : ℕ). term p f j (suc (r ^ i % p.n - 1))) forwards (p.n - 1) one_term))

    -- ---- the same sum backwards: place i is place -i modulo N - 1
    back : ℕ → ℕ
    back i = (p.n - 1 - i) % (p.n - 1)

    back-zero : back 0 ≡ 0
    unfolding back
    back-zero = ap (λ (x : ℕ). x % (p.n - 1)) (omega arith) ∙ mod_self (p.n - 1)

    back_other : (i : ℕ) → 0 < i → i < p.n - 1 → back i ≡ p.n - 1 - i
    unfolding back
    back_other i h l = mod-eq_of_lt (omega arith)

    back_below : (i : ℕ) → i < p.n - 1 → back i < p.n - 1
    unfolding back
    back_below i l = let some : 0 < p.n - 1 = omega arith in mod-lt (p.n - 1 - i) some

    back_apart : (i k : ℕ) → i < k → k < p.n - 1 → back i ≢ back k
    back_apart zero k h l e = omega (arith, back-zero, back_other k h l)
    back_apart (suc i) k h l e = omega (arith, back_other (suc i) (omega arith) (omega arith), back_other k (omega arith) l)

    term_back : (i : ℕ) → i < p.n - 1 → forwards (back i) ≡ reordered_coefficients r p f i *ℤ reordered_powers r p ((m + (p.n - 1 - i)) % (p.n - 1))
    unfolding back
    term_back i l =
        let e : p.n - 1 - i + m ≡ m + (p.n - 1 - i) = omega arith in
        ap₂ (λ (x y : ℕ). coefficient f x *ℤ pos (p.g ^ y)) (r_round several gen (p.n - 1 - i))
        (sym (pow-mul-mod r (back i) m p.n)
        ∙ ap (λ (x : ℕ). x * (r ^ m % p.n) % p.n) (r_round several gen (p.n - 1 - i))
        ∙ pow-mul-mod r (p.n - 1 - i) m p.n
        ∙ ap (λ (x : ℕ). r ^ x % p.n) e
        ∙ sym (r_round several gen (m + (p.n - 1 - i))))

    sum_back : sum forwards (p.n - 1) ≡ cyclic (p.n - 1) (reordered_coefficients r p f) (reordered_powers r p) m
    sum_back =
        sym (sum_in_order back (p.n - 1) back_below (apart_takes_each back (p.n - 1) back_below back_apart) forwards)
        ∙ sum_same (λ (i : ℕ). forwards (back i)) (λ (i : ℕ). reordered_coefficients r p f i *ℤ reordered_powers r p ((m + (p.n - 1 - i)) % (p.n - 1)))
        (p.n - 1) term_back

    pub reordered_at : (j : ℕ) → j % p.n ≡ r ^ m % p.n → Cong p.q (sum_at p f j) (reordered_sum r p f m)
    reordered_at j at = cong_trans (sum-forwards j at) (cong-eq (ap (λ (s : ℤ). coefficient f 0 +ℤ s) sum_back))
