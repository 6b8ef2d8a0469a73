-- The split, for any modulus q, numbers K and L, roots, and rows that meet one rule:
--
--   where the sum over s < K of (root s)^e × (row s at x) is w at e L + x, modulo q, for e < 2 K and x < 2 L - 1,
--   sums by powers of the roots, K products of length L with the rows, and sums by powers again give the sum of u at n times w at m + n, over n < K L.
--
-- Of roots and rows only the rule is used: no inverse occurs, and the roots need not even differ.
-- Assumes nothing.
use mathlib.Core.Path.{◌≡◌, sym, ap, ◌∙◌}
use Prim.Native.Nat.{ℕ, ◌+◌, ◌*◌, ◌^◌, ◌<◌}
use native.Mathlib.Nat.{add-mul}
use native.Mathlib.Omega.{arith}
use lib.Pow.{pow-add}
use lib.IntN.{ℤ, pos, ◌*ℤ◌}
use Rattle.algebra.specs.Integer.{sum}
use Rattle.algebra.proofs.Congruence.{Cong, cong_refl, cong-eq, cong_trans, cong-mul}
use Rattle.algebra.proofs.Ring.{ring}
use Rattle.algebra.proofs.Sum.{sum-cong, sum_same, sum_times, sum_swap, sum_rows}

-- the rule
pub record Ruled (q k l : ℕ) (root : ℕ → ℕ) (row : ℕ → ℕ → ℤ) (w : ℕ → ℤ) : Type 0 where
  pub each : (e x : ℕ) → e < k + k → x + 1 < l + l → Cong q (sum (λ (s : ℕ). pos (root s ^ e) *ℤ row s x) k) (w (e * l + x))

-- the three stages on u: xs by powers of the roots, ys the products, and out at e L + v
pub record Stages (q k l : ℕ) (root : ℕ → ℕ) (row : ℕ → ℕ → ℤ) (u out : ℕ → ℤ) : Type 0 where
  pub xs : ℕ → ℕ → ℤ
  pub ys : ℕ → ℕ → ℤ
  pub cut : (s i : ℕ) → s < k → i < l → Cong q (xs s i) (sum (λ (a : ℕ). pos (root s ^ a) *ℤ u (a * l + i)) k)
  pub products : (s v : ℕ) → s < k → v < l → Cong q (ys s v) (sum (λ (i : ℕ). xs s i *ℤ row s (v + i)) l)
  pub joined : (e v : ℕ) → e < k → v < l → Cong q (out (e * l + v)) (sum (λ (s : ℕ). pos (root s ^ e) *ℤ ys s v) k)

swap_factors : (z t s : ℤ) → z *ℤ (s *ℤ t) ≡ z *ℤ t *ℤ s
swap_factors z t s = simp ring

gather : (a t b u : ℤ) → a *ℤ t *ℤ (b *ℤ u) ≡ u *ℤ (a *ℤ b *ℤ t)
gather a t b u = simp ring

module _ {q k l : ℕ} {root : ℕ → ℕ} {row : ℕ → ℕ → ℤ} {w u out : ℕ → ℤ} (rule : Ruled q k l root row w) (stages : Stages q k l root row u out) where
  module _ (e v : ℕ) (e-below : e < k) (v_below : v < l) where
    -- the product at s, i, a, with both powers of the root in one
    part : ℕ → ℕ → ℕ → ℤ
    part s i a = u (a * l + i) *ℤ (pos (root s ^ (e + a)) *ℤ row s (v + i))

    one_place : (s i : ℕ) → s < k → i < l → Cong q (pos (root s ^ e) *ℤ (stages.xs s i *ℤ row s (v + i))) (sum (part s i) k)
    unfolding part
    one_place s i hs hi =
        cong_trans (cong-mul (cong_refl (pos (root s ^ e))) (cong-mul (stages.cut s i hs hi) (cong_refl (row s (v + i)))))
        (cong-eq
        (swap_factors (pos (root s ^ e)) (row s (v + i)) (sum (λ (a : ℕ). pos (root s ^ a) *ℤ u (a * l + i)) k)
        ∙ sym (sum_times (pos (root s ^ e) *ℤ row s (v + i)) (λ (a : ℕ). pos (root s ^ a) *ℤ u (a * l + i)) k)
        ∙ sum_same (λ (a : ℕ). pos (root s ^ e) *ℤ row s (v + i) *ℤ (pos (root s ^ a) *ℤ u (a * l + i))) (part s i) k
        (λ a h.
        gather (pos (root s ^ e)) (row s (v + i)) (pos (root s ^ a)) (u (a * l + i))
        ∙ ap (λ (x : ℕ). u (a * l + i) *ℤ (pos x *ℤ row s (v + i))) (sym (pow-add (root s) e a)))))

    one_row : (s : ℕ) → s < k → Cong q (pos (root s ^ e) *ℤ stages.ys s v) (sum (λ (i : ℕ). sum (part s i) k) l)
    one_row s hs =
        cong_trans (cong-mul (cong_refl (pos (root s ^ e))) (stages.products s v hs v_below))
        (cong_trans (cong-eq (sym (sum_times (pos (root s ^ e)) (λ (i : ℕ). stages.xs s i *ℤ row s (v + i)) l)))
        (sum-cong (λ (i : ℕ). pos (root s ^ e) *ℤ (stages.xs s i *ℤ row s (v + i))) (λ (i : ℕ). sum (part s i) k) l (λ i hi. one_place s i hs hi)))

    -- the sum over s is done by the rule
    over_s : (i a : ℕ) → i < l → a < k → Cong q (sum (λ (s : ℕ). part s i a) k) (u (a * l + i) *ℤ w (e * l + v + (a * l + i)))
    unfolding part
    over_s i a hi ha =
        cong_trans (cong-eq (sum_times (u (a * l + i)) (λ (s : ℕ). pos (root s ^ (e + a)) *ℤ row s (v + i)) k))
        (cong-mul (cong_refl (u (a * l + i)))
        (cong_trans (rule.each (e + a) (v + i) (omega arith) (omega arith)) (cong-eq (ap w (omega (arith, add-mul e a l))))))

    pub split_sum : Cong q (out (e * l + v)) (sum (λ (n : ℕ). u n *ℤ w (e * l + v + n)) (k * l))
    split_sum =
        cong_trans (stages.joined e v e-below v_below)
        (cong_trans (sum-cong (λ (s : ℕ). pos (root s ^ e) *ℤ stages.ys s v) (λ (s : ℕ). sum (λ (i : ℕ). sum (part s i) k) l) k one_row)
        (cong_trans (cong-eq (sum_swap (λ (s i : ℕ). sum (part s i) k) k l))
        (cong_trans
        (sum-cong (λ (i : ℕ). sum (λ (s : ℕ). sum (part s i) k) k) (λ (i : ℕ). sum (λ (a : ℕ). u (a * l + i) *ℤ w (e * l + v + (a * l + i))) k) l
        (λ i hi. cong_trans (cong-eq (sum_swap (λ (s a : ℕ). part s i a) k k))
        (sum-cong (λ (a : ℕ). sum (λ (s : ℕ). part s i a) k) (λ (a : ℕ). u (a * l + i) *ℤ w (e * l + v + (a * l + i))) k (λ a ha. over_s i a hi ha))))
        (cong-eq
        (sum_swap (λ (i a : ℕ). u (a * l + i) *ℤ w (e * l + v + (a * l + i))) l k
        ∙ sym (sum_rows (λ (n : ℕ). u n *ℤ w (e * l + v + n)) k l))))))
