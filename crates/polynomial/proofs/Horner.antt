-- The value of a polynomial at x by Horner's rule: exact for sums, modulo q for cyclic products where x to the N is 1 modulo q.
-- Assumes nothing.
use mathlib.Core.Path.{◌≡◌, refl, sym, ap, ◌∙◌, subst}
use mathlib.Core.List.{List, [], ◌∷◌}
use Prim.Native.Nat.{ℕ, zero, suc}
use lib.IntN.{ℤ, pos, ◌+ℤ◌, ◌*ℤ◌, neg_ℤ, +ℤ_idl, +ℤ_idr, *ℤ-zero}
use lib.ListN.{length}
use Rattle.algebra.proofs.Ring.{ring, cancel_right}
use Rattle.algebra.proofs.Congruence.{Cong, cong_refl, cong-eq, cong_trans, cong-add, cong-mul}
use Rattle.polynomial.specs.Polynomial.{add, scale, neg, push, last_of, rotate, star}
use Rattle.polynomial.proofs.Linear.{length-rotate}

abbrev pub at : ℤ → List ℤ → ℤ
at x [] = pos 0
at x (a ∷ f) = a +ℤ x *ℤ at x f

abbrev pub power : ℤ → ℕ → ℤ
power x zero = pos 1
power x (suc n) = x *ℤ power x n

-- The steps of the inductions below, as identities of ℤ. They stand by themselves: `simp ring` sorts by the context, and in a recursive clause that would
-- not be confirmed.
add_step : (x a b u v w : ℤ) → u ≡ v +ℤ w → a +ℤ b +ℤ x *ℤ u ≡ a +ℤ x *ℤ v +ℤ (b +ℤ x *ℤ w)
add_step x a b u v w h = simp (h, ring)

scale_step : (x k a u v : ℤ) → u ≡ k *ℤ v → k *ℤ a +ℤ x *ℤ u ≡ k *ℤ (a +ℤ x *ℤ v)
scale_step x k a u v h = simp (h, ring)

neg_step : (x a u v : ℤ) → u ≡ neg_ℤ v → neg_ℤ a +ℤ x *ℤ u ≡ neg_ℤ (a +ℤ x *ℤ v)
neg_step x a u v h = simp (h, ring)

push_none : (x p : ℤ) → pos 0 +ℤ pos 1 *ℤ p ≡ p +ℤ x *ℤ pos 0
push_none x p = simp ring

push_step : (x p u w l v : ℤ) → u +ℤ w *ℤ l ≡ v → p +ℤ x *ℤ u +ℤ x *ℤ w *ℤ l ≡ p +ℤ x *ℤ v
push_step x p u w l v h = simp (← h, ring)

module _ (x : ℤ) where
  pub at-add : (f h : List ℤ) → at x (add f h) ≡ at x f +ℤ at x h
  at-add [] h = sym (+ℤ_idl (at x h))
  at-add (a ∷ f) [] = sym (+ℤ_idr (at x (a ∷ f)))
  at-add (a ∷ f) (b ∷ h) = add_step x a b (at x (add f h)) (at x f) (at x h) (at-add f h)

  at-scale : (k : ℤ) (f : List ℤ) → at x (scale k f) ≡ k *ℤ at x f
  at-scale k [] = sym (*ℤ-zero k)
  at-scale k (a ∷ f) = scale_step x k a (at x (scale k f)) (at x f) (at-scale k f)

  pub at-neg : (f : List ℤ) → at x (neg f) ≡ neg_ℤ (at x f)
  at-neg [] = refl
  at-neg (a ∷ f) = neg_step x a (at x (neg f)) (at x f) (at-neg f)

  -- x times p + x f, where the last coefficient leaves as its multiple of x to the N
  at-push : (p : ℤ) (f : List ℤ) → at x (push p f) +ℤ power x (length f) *ℤ last_of p f ≡ p +ℤ x *ℤ at x f
  at-push p [] = push_none x p
  at-push p (a ∷ f) = push_step x p (at x (push a f)) (power x (length f)) (last_of a f) (a +ℤ x *ℤ at x f) (at-push a f)

last_last : (p : ℤ) (f : List ℤ) → last_of (last_of p f) f ≡ last_of p f
last_last p [] = refl
last_last p (a ∷ f) = refl

module _ {q : ℕ} where
  -- from r + w l = l + y, where w is 1 modulo q: r is y modulo q
  drop_last : (r w l y : ℤ) → r +ℤ w *ℤ l ≡ l +ℤ y → Cong q w (pos 1) → Cong q r y
  drop_last r w l y e h = record { times = neg_ℤ (h.times *ℤ l); is = cancel_right r (y +ℤ pos q *ℤ neg_ℤ (h.times *ℤ l)) (w *ℤ l) (e ∙ simp (h.is, ring)) }

  star_step : (x a v w r s t : ℤ) → Cong q s (x *ℤ v) → Cong q r (s *ℤ w) → t ≡ a *ℤ v +ℤ r → Cong q t (v *ℤ (a +ℤ x *ℤ w))
  star_step x a v w r s t hs hr e =
      cong_trans (cong_trans (cong-eq e) (cong-add (cong_refl (a *ℤ v)) (cong_trans hr (cong-mul hs (cong_refl w))))) (cong-eq (simp ring))

  module _ (x : ℤ) where
    at-rotate : (f : List ℤ) → Cong q (power x (length f)) (pos 1) → Cong q (at x (rotate f)) (x *ℤ at x f)
    at-rotate f h =
        drop_last (at x (rotate f)) (power x (length f)) (last_of (pos 0) f) (x *ℤ at x f)
        (ap (λ (u : ℤ). at x (rotate f) +ℤ power x (length f) *ℤ u) (sym (last_last (pos 0) f)) ∙ at-push x (last_of (pos 0) f) f)
        h

    pub at-star : (f c : List ℤ) → Cong q (power x (length f)) (pos 1) → Cong q (at x (star f c)) (at x f *ℤ at x c)
    at-star f [] h = cong-eq (sym (*ℤ-zero (at x f)))
    at-star f (a ∷ c) h =
        star_step x a (at x f) (at x c) (at x (star (rotate f) c)) (at x (rotate f)) (at x (star f (a ∷ c)))
        (at-rotate f h)
        (at-star (rotate f) c (subst (λ (n : ℕ). Cong q (power x n) (pos 1)) (sym (length-rotate f)) h))
        (at-add x (scale a f) (star (rotate f) c) ∙ ap (λ (u : ℤ). u +ℤ at x (star (rotate f) c)) (at-scale x a f))
