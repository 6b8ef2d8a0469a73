-- Permutations: a sequence that takes its first n places to numbers below n. Where no two places go to one number, each number is taken, and where each is
-- taken, no two go to one; and a sum may go through the numbers in the sequence's order. Shown by counting how often each number is taken.
-- Assumes nothing.
use mathlib.Core.Path.{◌≡◌, refl, sym, ap, ap₂, ◌∙◌}
use mathlib.Core.Logic.{◌≢◌}
use mathlib.Core.Bool.{cond}
use Prim.Native.Nat.{ℕ, zero, suc, ◌+◌, ◌≤◌, ◌<◌}
use native.Mathlib.Omega.{arith}
use lib.Dec.{eqb}
use lib.IntN.{ℤ, pos, ◌+ℤ◌, ◌*ℤ◌, nat_abs, zero-*ℤ, +ℤ_idl, +ℤ_idr}
use borrow.Author.Tests.{eqb-true, eqb-false, eq-eqb, ne_eqb}
use Rattle.algebra.specs.Integer.{sum}
use Rattle.algebra.proofs.Ring.{ring, *ℤ_idl, *ℤ_idr}
use Rattle.algebra.proofs.Sum.{sum_same}
use Rattle.algebra.proofs.Test.{by_test}
use Rattle.transform.specs.Generator.{Taken}

-- 1 where a is b, else 0
bit : ℕ → ℕ → ℕ
bit a b = cond (eqb a b) 1 0

bit_same : (a b : ℕ) → a ≡ b → bit a b ≡ 1
unfolding bit
bit_same a b e = rw (eq-eqb a b e) refl

bit_other : (a b : ℕ) → a ≢ b → bit a b ≡ 0
unfolding bit
bit_other a b e = rw (ne_eqb a b e) refl

-- how many of the first m places s takes to j
hits : (ℕ → ℕ) → ℕ → ℕ → ℕ
hits s zero j = 0
hits s (suc m) j = hits s m j + bit (s m) j

-- ---- a sum of one term
none_before : (h : ℕ → ℤ) (x n : ℕ) → n ≤ x → sum (λ (j : ℕ). pos (bit x j) *ℤ h j) n ≡ pos 0
none_before h x zero l = refl
none_before h x (suc n) l =
    ap₂ ◌+ℤ◌ (none_before h x n (omega arith)) (ap (λ (b : ℕ). pos b *ℤ h n) (bit_other x n (λ e. omega arith)) ∙ zero-*ℤ (h n))

only_term : (h : ℕ → ℤ) (x n : ℕ) → x < n → sum (λ (j : ℕ). pos (bit x j) *ℤ h j) n ≡ h x
only_term h x zero l = absurd (omega arith)
only_term h x (suc n) l =
    by_test (eqb x n)
    (λ t. let same = eqb-true x n t in
    ap₂ ◌+ℤ◌ (none_before h x n (omega arith)) (ap (λ (b : ℕ). pos b *ℤ h n) (bit_same x n same) ∙ *ℤ_idl (h n)) ∙ +ℤ_idl (h n) ∙ ap h (sym same))
    (λ t. let other = eqb-false x n t in
    ap₂ ◌+ℤ◌ (only_term h x n (omega arith)) (ap (λ (b : ℕ). pos b *ℤ h n) (bit_other x n other) ∙ zero-*ℤ (h n)) ∙ +ℤ_idr (h x))

-- ---- a sum by how often each number is taken
sum-zero : (n : ℕ) → sum (λ (i : ℕ). pos 0) n ≡ pos 0
sum-zero zero = refl
sum-zero (suc n) = +ℤ_idr (sum (λ (i : ℕ). pos 0) n) ∙ sum-zero n

sum_plus : (f h : ℕ → ℤ) (n : ℕ) → sum (λ (i : ℕ). f i +ℤ h i) n ≡ sum f n +ℤ sum h n
sum_plus f h zero = refl
sum_plus f h (suc n) = four (sum f n) (sum h n) (f n) (h n) (sum_plus f h n)
  where
    four : (a b c d : ℤ) {s : ℤ} → s ≡ a +ℤ b → s +ℤ (c +ℤ d) ≡ a +ℤ c +ℤ (b +ℤ d)
    four a b c d e = simp (e, ring)

two_parts : (a b t : ℤ) → a *ℤ t +ℤ b *ℤ t ≡ (a +ℤ b) *ℤ t
two_parts a b t = simp ring

sum_by_hits : (s : ℕ → ℕ) (n m : ℕ) → ((i : ℕ) → i < m → s i < n) → (h : ℕ → ℤ) → sum (λ (i : ℕ). h (s i)) m ≡ sum (λ (j : ℕ). pos (hits s m j) *ℤ h j) n
unfolding hits
sum_by_hits s n zero b h = sym (sum_same (λ (j : ℕ). pos 0 *ℤ h j) (λ (j : ℕ). pos 0) n (λ j l. zero-*ℤ (h j)) ∙ sum-zero n)
sum_by_hits s n (suc m) b h =
    ap₂ ◌+ℤ◌ (sum_by_hits s n m (λ i l. b i (omega arith)) h) (sym (only_term h (s m) n (b m (omega arith))))
    ∙ sym (sum_plus (λ (j : ℕ). pos (hits s m j) *ℤ h j) (λ (j : ℕ). pos (bit (s m) j) *ℤ h j) n)
    ∙ sum_same (λ (j : ℕ). pos (hits s m j) *ℤ h j +ℤ pos (bit (s m) j) *ℤ h j) (λ (j : ℕ). pos (hits s m j + bit (s m) j) *ℤ h j) n
    (λ j l. two_parts (pos (hits s m j)) (pos (bit (s m) j)) (h j))

-- ---- totals of counts
total : (ℕ → ℕ) → ℕ → ℕ
total c zero = 0
total c (suc n) = total c n + c n

sum-total : (c : ℕ → ℕ) (n : ℕ) → sum (λ (j : ℕ). pos (c j)) n ≡ pos (total c n)
unfolding total
sum-total c zero = refl
sum-total c (suc n) = ap (λ (s : ℤ). s +ℤ pos (c n)) (sum-total c n)

total_less : (a b : ℕ → ℕ) (n : ℕ) → ((j : ℕ) → j < n → a j ≤ b j) → total a n ≤ total b n
unfolding total
total_less a b zero h = omega arith
total_less a b (suc n) h = omega (arith, total_less a b n (λ j l. h j (omega arith)), h n (omega arith))

-- counts of which none is larger than the other, with one total, are the same
same_total : (a b : ℕ → ℕ) (n : ℕ) → ((j : ℕ) → j < n → a j ≤ b j) → total a n ≡ total b n → (j : ℕ) → j < n → a j ≡ b j
unfolding total
same_total a b zero h t j l = absurd (omega arith)
same_total a b (suc n) h t j l =
    let less = total_less a b n (λ i k. h i (omega arith)) in
    let last = h n (omega arith) in
    by_test (eqb j n)
    (λ e. let same = eqb-true j n e in ap a same ∙ omega arith ∙ ap b (sym same))
    (λ e. let other = eqb-false j n e in same_total a b n (λ i k. h i (omega arith)) (omega arith) j (omega arith))

-- ---- how often a number is taken
never_hit : (s : ℕ → ℕ) (m j : ℕ) → ((i : ℕ) → i < m → s i ≢ j) → hits s m j ≡ 0
unfolding hits
never_hit s zero j a = refl
never_hit s (suc m) j a = ap₂ ◌+◌ (never_hit s m j (λ i l. a i (omega arith))) (bit_other (s m) j (a m (omega arith)))

hits_once : (s : ℕ → ℕ) (m j : ℕ) → ((i k : ℕ) → i < k → k < m → s i ≢ s k) → hits s m j ≤ 1
unfolding hits
hits_once s zero j a = omega arith
hits_once s (suc m) j a =
    by_test (eqb (s m) j)
    (λ t. let same = eqb-true (s m) j t in omega (arith, bit_same (s m) j same, never_hit s m j (λ i l e. a i m l (omega arith) (e ∙ sym same))))
    (λ t. omega (arith, bit_other (s m) j (eqb-false (s m) j t), hits_once s m j (λ i k h l. a i k h (omega arith))))

-- a place among more
hits_more : (s : ℕ → ℕ) (m j k : ℕ) → k ≤ m → hits s k j ≤ hits s m j
unfolding hits
hits_more s zero j k h = let e : k ≡ 0 = omega arith in rw e (omega arith)
hits_more s (suc m) j k h =
    by_test (eqb k (suc m)) (λ t. let e = eqb-true k (suc m) t in rw e (omega arith))
    (λ t. let other = eqb-false k (suc m) t in omega (arith, hits_more s m j k (omega arith)))

hits_of : (s : ℕ → ℕ) (i j : ℕ) → s i ≡ j → hits s i j + 1 ≡ hits s (suc i) j
unfolding hits
hits_of s i j e = omega (arith, bit_same (s i) j e)

taken_of : (s : ℕ → ℕ) (m j : ℕ) → hits s m j ≢ 0 → Taken s m j
unfolding hits
taken_of s zero j a = absurd (a refl)
taken_of s (suc m) j a =
    by_test (eqb (s m) j) (λ t. record { place = m; below = omega arith; is = eqb-true (s m) j t })
    (λ t. let none = bit_other (s m) j (eqb-false (s m) j t) in
    let r = taken_of s m j (λ z. a (omega arith)) in
    record { place = r.place; below = omega (arith, r.below); is = r.is })

module _ (s : ℕ → ℕ) (n : ℕ) (below : (i : ℕ) → i < n → s i < n) where
  hits-total : total (hits s n) n ≡ total (λ (j : ℕ). 1) n
  hits-total =
      ap nat_abs
      (sym (sum-total (hits s n) n)
      ∙ sum_same (λ (j : ℕ). pos (hits s n j)) (λ (j : ℕ). pos (hits s n j) *ℤ pos 1) n (λ j l. sym (*ℤ_idr (pos (hits s n j))))
      ∙ sym (sum_by_hits s n n below (λ (j : ℕ). pos 1))
      ∙ sum-total (λ (j : ℕ). 1) n)

  once_if_apart : ((i k : ℕ) → i < k → k < n → s i ≢ s k) → (j : ℕ) → j < n → hits s n j ≡ 1
  once_if_apart apart = same_total (hits s n) (λ (j : ℕ). 1) n (λ j l. hits_once s n j apart) hits-total

  once_if_taken : ((j : ℕ) → j < n → Taken s n j) → (j : ℕ) → j < n → hits s n j ≡ 1
  once_if_taken each j l =
      sym
      (same_total (λ (j : ℕ). 1) (hits s n) n
      (λ j l. let t = each j l in omega (arith, hits_of s t.place j t.is, hits_more s n j (suc t.place) t.below)) (sym hits-total) j l)

  pub apart_takes_each : ((i k : ℕ) → i < k → k < n → s i ≢ s k) → (j : ℕ) → j < n → Taken s n j
  apart_takes_each apart j l = taken_of s n j (λ z. omega (arith, once_if_apart apart j l))

  module _ (each : (j : ℕ) → j < n → Taken s n j) where
    pub taken_apart : (i k : ℕ) → i < k → k < n → s i ≢ s k
    taken_apart i k h l e =
        let j = s k in
        omega
        (arith, hits_of s i j e, hits_more s k j (suc i) h, hits_of s k j refl, hits_more s n j (suc k) l, once_if_taken each j (below k l))

    pub sum_in_order : (h : ℕ → ℤ) → sum (λ (i : ℕ). h (s i)) n ≡ sum h n
    sum_in_order h =
        sum_by_hits s n n below h
        ∙ sum_same (λ (j : ℕ). pos (hits s n j) *ℤ h j) h n (λ j l. ap (λ (k : ℕ). pos k *ℤ h j) (once_if_taken each j l) ∙ *ℤ_idl (h j))
