-- Ranges: how large the coefficients of sums, multiples and products can be. The product with a ternary polynomial is within the other factor's 1-norm.
-- Assumes nothing.
use mathlib.Core.Path.{refl, sym, subst}
use mathlib.Core.List.{List, [], ◌∷◌}
use Prim.Native.Nat.{ℕ, zero, suc, ◌+◌, ◌-◌, ◌*◌, ◌%◌, ◌≤◌, ◌<◌, zero-le}
use native.Mathlib.Nat.{le_trans, mul-le-mul_left, mul-one}
use native.Mathlib.Omega.{arith}
use lib.Dec.{T, leb, leb→le, le→leb}
use lib.IntN.{ℤ, pos, nat_abs}
use lib.ListN.{length, take, drop, replicate, length-take}
use lib.Seq.{get_or-take}
use Rattle.algebra.proofs.All.{all_from, all-drop}
use Rattle.algebra.proofs.Test.{and_left, and_right, and_intro}
use Rattle.algebra.proofs.Absolute.{abs-add, abs-neg, abs-mul}
use Rattle.algebra.specs.Integer.{within}
use Rattle.polynomial.specs.Polynomial.{coefficient, add, scale, neg, sub, rotate, star, z_of, ternary, one_norm}
use Rattle.polynomial.proofs.Norm.{norm_length}
use Rattle.polynomial.proofs.Linear.{length-rotate, coefficient-add, coefficient-scale, coefficient-neg}
use Rattle.polynomial.proofs.Rotation.{coefficient-rotations}

-- ---- the test at each coefficient. One beyond the end is 0
pub within-coefficient : (k : ℕ) (f : List ℤ) (i : ℕ) → T (within k f) → nat_abs (coefficient f i) ≤ k
within-coefficient k [] i t = zero-le
within-coefficient k (a ∷ f) zero t = leb→le (nat_abs a) k (and_left (leb (nat_abs a) k) (within k f) t)
within-coefficient k (a ∷ f) (suc i) t = within-coefficient k f i (and_right (leb (nat_abs a) k) (within k f) t)

within_each : (k : ℕ) (f : List ℤ) → ((i : ℕ) → i < length f → nat_abs (coefficient f i) ≤ k) → T (within k f)
within_each k f h = all_from (λ (a : ℤ). leb (nat_abs a) k) f (pos 0) (λ i l. le→leb (nat_abs (coefficient f i)) k (h i l))

pub within-take : (k i : ℕ) (f : List ℤ) → T (within k f) → T (within k (take i f))
within-take k i f t = within_each k (take i f) (λ j l. rw (get_or-take i f j (pos 0) (omega (arith, length-take i f))) (within-coefficient k f j t))

pub within-drop : (k i : ℕ) (f : List ℤ) → T (within k f) → T (within k (drop i f))
within-drop k i f t = all-drop (λ (a : ℤ). leb (nat_abs a) k) i f t

-- zeros
pub within_zeros : (k n : ℕ) → T (within k (replicate n (pos 0)))
within_zeros k zero = tt
within_zeros k (suc n) = and_intro (leb 0 k) (within k (replicate n (pos 0))) (le→leb 0 k zero-le) (within_zeros k n)

-- ---- the laws
pub within_mono : {k l : ℕ} → k ≤ l → (f : List ℤ) → T (within k f) → T (within l f)
within_mono {k} {l} h f t = within_each l f (λ i b. le_trans (within-coefficient k f i t) h)

within-add : (k l : ℕ) (f h : List ℤ) → T (within k f) → T (within l h) → T (within (k + l) (add f h))
within-add k l f h s t =
    within_each (k + l) (add f h)
    (λ i b. rw (coefficient-add f h i)
    (omega (arith, abs-add (coefficient f i) (coefficient h i), within-coefficient k f i s, within-coefficient l h i t)))

within-scale : (k : ℕ) (a : ℤ) (f : List ℤ) → T (within k f) → T (within (nat_abs a * k) (scale a f))
within-scale k a f t =
    within_each (nat_abs a * k) (scale a f)
    (λ i b. rw (coefficient-scale a f i) (omega (arith, abs-mul a (coefficient f i), mul-le-mul_left (nat_abs a) (within-coefficient k f i t))))

pub within-sub : (k l : ℕ) (f h : List ℤ) → T (within k f) → T (within l h) → T (within (k + l) (sub f h))
within-sub k l f h s t =
    within-add k l f (neg h) s (within_each l (neg h) (λ i b. rw (coefficient-neg h i) (omega (arith, abs-neg (coefficient h i), within-coefficient l h i t))))

-- each coefficient of f rotated is one of f
within-rotate : (k : ℕ) (f : List ℤ) → T (within k f) → T (within k (rotate f))
within-rotate k [] t = tt
within-rotate k (a ∷ f) t =
    within_each k (rotate (a ∷ f))
    (λ i b. subst (λ (z : ℤ). nat_abs z ≤ k)
    (sym (coefficient-rotations (a ∷ f) (suc (length f)) 1 refl (omega arith) i (omega (arith, length-rotate (a ∷ f)))))
    (within-coefficient k (a ∷ f) ((i + (suc (length f) - 1)) % suc (length f)) t))

pub within-star : (f c : List ℤ) → T (ternary f) → T (within (one_norm c) (star f c))
within-star f [] t = tt
within-star f (a ∷ c) t =
    within-add (nat_abs a) (one_norm c) (scale a f) (star (rotate f) c) (rw (mul-one (nat_abs a)) at (within-scale 1 a f t))
    (within-star (rotate f) c (within-rotate 1 f t))

-- a mask within k gives a point within k plus the challenge's 1-norm
pub z_within : (k : ℕ) (f c y : List ℤ) → T (ternary f) → T (within k y) → T (within (k + one_norm c) (z_of f c y))
z_within k f c y t u = within_mono (omega arith) (z_of f c y) (within-add (one_norm c) k (star f c) y (within-star f c t) u)

-- the point as a loop over the challenge sums it
pub partial_within : (k i : ℕ) (f c y : List ℤ) → T (ternary f) → T (ternary c) → T (within k y) → T (within (k + length c) (z_of f (take i c) y))
partial_within k i f c y s t u =
    within_mono (omega (arith, norm_length (take i c) (within-take 1 i c t), length-take i c)) (z_of f (take i c) y) (z_within k f (take i c) y s u)
