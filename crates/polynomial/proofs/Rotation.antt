-- Rotations as the code makes them, from two parts, and the product ⋆ as the code sums it, one coefficient of the challenge after the other.
-- Assumes nothing.
use mathlib.Core.Path.{◌≡◌, refl, sym, ap, ap₂, ◌∙◌}
use mathlib.Core.List.{List, [], ◌∷◌, ◌++◌, append_assoc, append-nil}
use Prim.Native.Nat.{ℕ, zero, suc, ◌+◌, ◌-◌, ◌%◌, ◌≤◌, ◌<◌}
use native.Mathlib.Nat.{le_of_lt, mod-eq_of_lt}
use native.Mathlib.Numerals.{add-one}
use native.Mathlib.Omega.{arith}
use mathlib.Core.Logic.{⊎_elim}
use lib.IntN.{ℤ, pos}
use lib.ListN.{length, take, drop, length-drop, take-append-drop, get_or-append}
use lib.Seq.{append_snoc, get_or-take, get_or-drop, take-suc, length-take-le}
use Rattle.algebra.proofs.List.{get_or_after}
use Rattle.algebra.proofs.Remainder.{round_once}
use Rattle.algebra.proofs.Test.{lt_or_le}
use Rattle.polynomial.specs.Polynomial.{coefficient, add, scale, push, last_of, rotate, star, z_of}
use Rattle.polynomial.specs.Rotation.{rotations}
use Rattle.polynomial.proofs.Linear.{length-scale, length-rotations, length_z, add-nil, add_comm, add_assoc, add-append, scale-append, add_none}

-- ---- a rotation from two parts
push_snoc : (p : ℤ) (f : List ℤ) (a : ℤ) → push p (f ++ (a ∷ [])) ≡ p ∷ f
push_snoc p [] a = refl
push_snoc p (x ∷ f) a = ap {B = List ℤ} (λ (u : List ℤ). p ∷ u) (push_snoc x f a)

last_snoc : (p : ℤ) (f : List ℤ) (a : ℤ) → last_of p (f ++ (a ∷ [])) ≡ a
last_snoc p [] a = refl
last_snoc p (x ∷ f) a = last_snoc x f a

-- as many places as t has coefficients bring t to the front
rotations-append : (s t : List ℤ) → rotations (length t) (s ++ t) ≡ t ++ s
rotations-append s [] = append-nil s
rotations-append s (b ∷ t) =
    ap rotate (ap (rotations (length t)) (sym (append_snoc s b t)) ∙ rotations-append (s ++ (b ∷ [])) t ∙ sym (append_assoc t s (b ∷ [])))
    ∙ ap (λ (l : ℤ). push l (t ++ s ++ (b ∷ []))) (last_snoc (pos 0) (t ++ s) b)
    ∙ push_snoc b (t ++ s) b

module _ (f : List ℤ) (n i : ℕ) (size : length f ≡ n) (h : i ≤ n) where
  -- the last i coefficients, then the others
  pub rotations_parts : rotations i f ≡ drop (n - i) f ++ take (n - i) f
  rotations_parts =
      let e : length (drop (n - i) f) ≡ i = length-drop (n - i) f ∙ omega arith in
      ap₂ rotations (sym e) (sym (take-append-drop (n - i) f)) ∙ rotations-append (take (n - i) f) (drop (n - i) f)

  -- coefficient k of f rotated i places is coefficient (k - i) modulo N of f
  pub coefficient-rotations : (k : ℕ) → k < n → coefficient (rotations i f) k ≡ coefficient f ((k + (n - i)) % n)
  coefficient-rotations k l =
      let e : length (drop (n - i) f) ≡ i = length-drop (n - i) f ∙ omega arith in
      rw rotations_parts
      (⊎_elim
      (λ (b : k < i).
      get_or-append (drop (n - i) f) (take (n - i) f) (pos 0) k (omega arith) ∙ get_or-drop (n - i) f k (pos 0)
      ∙ ap (coefficient f) (let m : (k + (n - i)) % n ≡ k + (n - i) = mod-eq_of_lt (omega arith) in omega arith))
      (λ (b : i ≤ k).
      get_or_after (drop (n - i) f) (take (n - i) f) k (pos 0) (omega arith)
      ∙ ap (λ (m : ℕ). coefficient (take (n - i) f) (k - m)) e
      ∙ get_or-take (n - i) f (k - i) (pos 0) (omega arith)
      ∙ ap (coefficient f) (omega (arith, round_once {n = n} (k + (n - i)) (omega arith) (omega arith))))
      (lt_or_le k i))

-- a sum with a multiple of a rotation, from two parts
pub add_parts : (z f : List ℤ) (a : ℤ) (i : ℕ) → length f ≡ length z → i ≤ length f
    → add (take i z) (scale a (drop (length f - i) f)) ++ add (drop i z) (scale a (take (length f - i) f)) ≡ add z (scale a (rotations i f))
add_parts z f a i e h =
    let s = drop (length f - i) f in
    let t = take (length f - i) f in
    let l : length (take i z) ≡ length (scale a s) = omega (arith, length-take-le i z (omega arith), length-scale a s, length-drop (length f - i) f) in
    cc (add-append (take i z) (drop i z) (scale a s) (scale a t) l, take-append-drop i z, scale-append a s t, rotations_parts f (length f) i refl h)

-- ---- the product, where the challenge grows by one coefficient
rotations-rotate : (i : ℕ) (f : List ℤ) → rotations i (rotate f) ≡ rotate (rotations i f)
rotations-rotate zero f = refl
rotations-rotate (suc i) f = ap rotate (rotations-rotate i f)

star-append : (f c : List ℤ) (a : ℤ) → star f (c ++ (a ∷ [])) ≡ add (star f c) (scale a (rotations (length c) f))
star-append f [] a = add-nil (scale a f)
star-append f (b ∷ c) a =
    cc (
      star-append (rotate f) c a,
      rotations-rotate (length c) f,
      add_assoc (scale b f) (star (rotate f) c) (scale a (rotations (suc (length c)) f)),
    )

-- ---- the point, after one turn more of the loop over the challenge
module _ (f c y : List ℤ) (i : ℕ) (below : i < length c) where
  pub z_next : add (z_of f (take i c) y) (scale (coefficient c i) (rotations i f)) ≡ z_of f (take (i + 1) c) y
  z_next =
      let s = star f (take i c) in
      let r = scale (coefficient c i) (rotations i f) in
      let grown = star-append f (take i c) (coefficient c i) in
      rw (add-one i, take-suc c i (pos 0)) (cc (add_assoc s y r, add_comm y r, add_assoc s r y, grown, length-take-le i c (le_of_lt below)))

  -- a coefficient 0 adds nothing
  pub z_skip : length f ≤ length y → coefficient c i ≡ pos 0 → z_of f (take i c) y ≡ z_of f (take (i + 1) c) y
  z_skip l e =
      cc (add_none (z_of f (take i c) y) (rotations i f) (omega (arith, length-rotations i f, length_z f (take i c) y l)), z_next)
