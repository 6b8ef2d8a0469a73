-- Sums and multiples of polynomials: how many coefficients they have, the coefficients one by one, and laws as equations of lists, also as a loop works
-- them out, one coefficient a turn. The lengths of rotations, products and points follow.
-- Assumes nothing.
use mathlib.Core.Path.{◌≡◌, refl, sym, ap, ap₂, ◌∙◌}
use mathlib.Core.List.{List, [], ◌∷◌, ◌++◌}
use Prim.Native.Nat.{ℕ, zero, suc, ◌≤◌, ◌<◌, max, zero-le}
use native.Mathlib.Nat.{le_of_suc-le-suc, not-suc-le-zero}
use native.Mathlib.Omega.{arith}
use lib.IntN.{ℤ, pos, ◌+ℤ◌, ◌*ℤ◌, neg_ℤ, +ℤ_comm, +ℤ_assoc, +ℤ_idl, +ℤ_idr, zero-*ℤ, *ℤ-zero}
use lib.ListN.{length, take, set, replicate}
use Rattle.algebra.proofs.Ring.{ring}
use Rattle.polynomial.specs.Polynomial.{coefficient, add, scale, neg, sub, push, rotate, star, z_of}
use Rattle.polynomial.specs.Rotation.{rotations}

-- ---- lengths
pub length-scale : (a : ℤ) (f : List ℤ) → length (scale a f) ≡ length f
length-scale a [] = refl
length-scale a (x ∷ f) = ap suc (length-scale a f)

pub length-neg : (f : List ℤ) → length (neg f) ≡ length f
length-neg [] = refl
length-neg (x ∷ f) = ap suc (length-neg f)

-- a sum is as long as its longer summand
pub length-add : (f h : List ℤ) → length (add f h) ≡ max (length f) (length h)
length-add [] h = omega arith
length-add (a ∷ f) [] = omega arith
length-add (a ∷ f) (b ∷ h) = omega (arith, length-add f h)

pub length-sub : (f h : List ℤ) → length h ≤ length f → length (sub f h) ≡ length f
length-sub f h l = omega (arith, length-add f (neg h), length-neg h)

length-push : (a : ℤ) (f : List ℤ) → length (push a f) ≡ length f
length-push a [] = refl
length-push a (x ∷ f) = ap suc (length-push x f)

pub length-rotate : (f : List ℤ) → length (rotate f) ≡ length f
length-rotate f = length-push _ f

pub length-rotations : (i : ℕ) (f : List ℤ) → length (rotations i f) ≡ length f
length-rotations zero f = refl
length-rotations (suc i) f = length-rotate (rotations i f) ∙ length-rotations i f

-- at most: the product with no coefficient at all has none
pub length-star : (f c : List ℤ) → length (star f c) ≤ length f
length-star f [] = zero-le
length-star f (a ∷ c) = omega (arith, length-add (scale a f) (star (rotate f) c), length-scale a f, length-star (rotate f) c, length-rotate f)

pub length_z : (f c y : List ℤ) → length f ≤ length y → length (z_of f c y) ≡ length y
length_z f c y l = omega (arith, length-add (star f c) y, length-star f c)

-- ---- coefficients
pub coefficient-add : (f h : List ℤ) (i : ℕ) → coefficient (add f h) i ≡ coefficient f i +ℤ coefficient h i
coefficient-add [] h i = sym (+ℤ_idl (coefficient h i))
coefficient-add (a ∷ f) [] i = sym (+ℤ_idr (coefficient (a ∷ f) i))
coefficient-add (a ∷ f) (b ∷ h) zero = refl
coefficient-add (a ∷ f) (b ∷ h) (suc i) = coefficient-add f h i

pub coefficient-scale : (a : ℤ) (f : List ℤ) (i : ℕ) → coefficient (scale a f) i ≡ a *ℤ coefficient f i
coefficient-scale a [] i = sym (*ℤ-zero a)
coefficient-scale a (x ∷ f) zero = refl
coefficient-scale a (x ∷ f) (suc i) = coefficient-scale a f i

pub coefficient-neg : (f : List ℤ) (i : ℕ) → coefficient (neg f) i ≡ neg_ℤ (coefficient f i)
coefficient-neg [] i = refl
coefficient-neg (x ∷ f) zero = refl
coefficient-neg (x ∷ f) (suc i) = coefficient-neg f i

pub add-nil : (f : List ℤ) → add f [] ≡ f
add-nil [] = refl
add-nil (a ∷ f) = refl

pub add_comm : (f h : List ℤ) → add f h ≡ add h f
add_comm [] h = sym (add-nil h)
add_comm (a ∷ f) [] = refl
add_comm (a ∷ f) (b ∷ h) = ap₂ ◌∷◌ (+ℤ_comm a b) (add_comm f h)

pub add_assoc : (f h l : List ℤ) → add (add f h) l ≡ add f (add h l)
add_assoc [] h l = refl
add_assoc (a ∷ f) [] l = refl
add_assoc (a ∷ f) (b ∷ h) [] = refl
add_assoc (a ∷ f) (b ∷ h) (c ∷ l) = ap₂ ◌∷◌ (+ℤ_assoc a b c) (add_assoc f h l)

-- ---- taking a summand away
add_sub : (z s : ℤ) → s +ℤ (z +ℤ neg_ℤ s) ≡ z
add_sub z s = simp ring

pub sub_add : (y s : ℤ) → s +ℤ y +ℤ neg_ℤ s ≡ y
sub_add y s = simp ring

pub add_of_sub : (s z : List ℤ) → length s ≤ length z → add s (sub z s) ≡ z
add_of_sub [] z l = add-nil z
add_of_sub (a ∷ s) [] l = absurd (not-suc-le-zero l)
add_of_sub (a ∷ s) (b ∷ z) l = ap₂ ◌∷◌ (add_sub b a) (add_of_sub s z (le_of_suc-le-suc l))

pub sub_of_add : (s y : List ℤ) → length s ≤ length y → sub (add s y) s ≡ y
sub_of_add [] y l = add-nil y
sub_of_add (a ∷ s) [] l = absurd (not-suc-le-zero l)
sub_of_add (a ∷ s) (b ∷ y) l = ap₂ ◌∷◌ (sub_add b a) (sub_of_add s y (le_of_suc-le-suc l))

-- ---- sums of parts
pub add-append : (f h l n : List ℤ) → length f ≡ length l → add (f ++ h) (l ++ n) ≡ add f l ++ add h n
add-append [] h [] n e = refl
add-append [] h (b ∷ l) n e = absurd (omega arith)
add-append (a ∷ f) h [] n e = absurd (omega arith)
add-append (a ∷ f) h (b ∷ l) n e = ap {B = List ℤ} (λ (u : List ℤ). (a +ℤ b) ∷ u) (add-append f h l n (omega arith))

pub scale-append : (a : ℤ) (f h : List ℤ) → scale a (f ++ h) ≡ scale a f ++ scale a h
scale-append a [] h = refl
scale-append a (x ∷ f) h = ap {B = List ℤ} (λ (u : List ℤ). (a *ℤ x) ∷ u) (scale-append a f h)

-- 0 times a polynomial adds nothing
pub add_none : (h f : List ℤ) → length f ≤ length h → add h (scale (pos 0) f) ≡ h
add_none h [] l = add-nil h
add_none [] (x ∷ f) l = absurd (not-suc-le-zero l)
add_none (a ∷ h) (x ∷ f) l = ap₂ ◌∷◌ (ap (λ (u : ℤ). a +ℤ u) (zero-*ℤ x) ∙ +ℤ_idr a) (add_none h f (le_of_suc-le-suc l))

-- nor do zeros, where they are not more than the other summand's coefficients
pub add_zeros : (n : ℕ) (f : List ℤ) → n ≤ length f → add (replicate n (pos 0)) f ≡ f
add_zeros zero f l = refl
add_zeros (suc n) [] l = absurd (not-suc-le-zero l)
add_zeros (suc n) (a ∷ f) l = ap₂ ◌∷◌ (+ℤ_idl a) (add_zeros n f (le_of_suc-le-suc l))

-- ---- h + a f, where the first i coefficients of f are added
module _ (a : ℤ) where
  pub added_first : (h f : List ℤ) (i : ℕ) → i < length h → coefficient (add h (scale a (take i f))) i ≡ coefficient h i
  added_first [] f i l = absurd (not-suc-le-zero l)
  added_first (x ∷ h) f zero l = refl
  added_first (x ∷ h) [] (suc i) l = refl
  added_first (x ∷ h) (b ∷ f) (suc i) l = added_first h f i (le_of_suc-le-suc l)

  -- one coefficient more
  pub added_suc : (h f : List ℤ) (i : ℕ) → i < length h → i < length f
      → set (add h (scale a (take i f))) i (coefficient h i +ℤ a *ℤ coefficient f i) ≡ add h (scale a (take (suc i) f))
  added_suc [] f i l m = absurd (not-suc-le-zero l)
  added_suc (x ∷ h) [] i l m = absurd (not-suc-le-zero m)
  added_suc (x ∷ h) (b ∷ f) zero l m = ap {B = List ℤ} (λ (u : List ℤ). (x +ℤ a *ℤ b) ∷ u) (sym (add-nil h))
  added_suc (x ∷ h) (b ∷ f) (suc i) l m =
      ap {B = List ℤ} (λ (u : List ℤ). (x +ℤ a *ℤ b) ∷ u) (added_suc h f i (le_of_suc-le-suc l) (le_of_suc-le-suc m))
