-- The product's loops, one coefficient a turn: of f, of a mask, and of a challenge.
-- Assumes nothing.
use Rattle.std.proofs.Common.{◌≡◌, ℕ, ◌+◌, ◌<◌, ◌≤◌, ◌^◌, List, T, ℤ, pos, ◌+ℤ◌, ◌*ℤ◌, nat_abs, length, take, set, sym, ap, ◌∙◌, add-one, arith, length-set, replicate}
use Rattle.algebra.specs.Integer.{within}
use Rattle.parameters.specs.Limits.{max_n}
use Rattle.polynomial.specs.Polynomial.{coefficient, add, scale, star, z_of, ternary}
use Rattle.polynomial.specs.Rotation.{rotations}
use Rattle.polynomial.specs.Asks.{Addable}
use Rattle.polynomial.proofs.Bound.{within-coefficient, within_mono, partial_within}
use Rattle.algebra.proofs.List.{take-replicate}
use Rattle.polynomial.proofs.Linear.{length_z, added_first, added_suc, add-nil, add_assoc, add_zeros}
use Rattle.polynomial.proofs.Rotation.{z_next, z_skip}
use lib.Seq.{length-take-le}
use Rattle.std.proofs.lemmas.List.{length-replicate}

-- ---- the sums s are h + a f as far as the first i coefficients of f
pub record Added (h f : List ℤ) (a : ℤ) (s : List ℤ) (i : ℕ) : Type 0 where
  pub addable : Addable h f a
  pub size : length s ≡ length f
  pub sums : s ≡ add h (scale a (take i f))

pub added_none : {h f : List ℤ} {a : ℤ} → Addable h f a → Added h f a h 0
added_none {h} addable = record { addable = addable; size = sym addable.size; sums = sym (add-nil h) }

module _ {h f : List ℤ} {a : ℤ} {s : List ℤ} {i : ℕ} (so_far : Added h f a s i) (below : i < length f) where
  inside : i < length h
  inside = omega (arith, so_far.addable.size)

  -- what is read at i is what stood there before
  unchanged : coefficient s i ≡ coefficient h i
  unchanged = ap (λ (g : List ℤ). coefficient g i) so_far.sums ∙ added_first a h f i inside

  pub added_room : nat_abs (coefficient s i) ≤ 2 ^ 14
  added_room = rw unchanged (within-coefficient (2 ^ 14) h i so_far.addable.room)

  pub added_small : nat_abs (coefficient f i) ≤ 1
  added_small = within-coefficient 1 f i so_far.addable.small

  pub added_more : {v : ℤ} → v ≡ coefficient s i +ℤ a *ℤ coefficient f i → Added h f a (set s i v) (i + 1)
  added_more {v} e = record {
    addable = so_far.addable;
    size = length-set s i v ∙ so_far.size;
    sums =
        rw (add-one, e, unchanged)
        (ap (λ (g : List ℤ). set g i (coefficient h i +ℤ a *ℤ coefficient f i)) so_far.sums ∙ added_suc a h f i inside below);
  }

-- ---- the sums s are f ⋆ c + y as far as the first i coefficients of c
pub record Multiplied (f c y s : List ℤ) (i : ℕ) : Type 0 where
  pub sums : s ≡ z_of f (take i c) y

module _ {f c y s : List ℤ} {i : ℕ} (so_far : Multiplied f c y s i) (below : i < length c) where
  pub factor_addable : length y ≡ length f → length c ≤ max_n → T (ternary f) → T (ternary c) → T (within (2 ^ 13) y) → Addable s f (coefficient c i)
  factor_addable size few f_small c_small y_small = record {
    size = omega (arith, size, ap length so_far.sums, length_z f (take i c) y (omega (arith, size)));
    room = rw so_far.sums (within_mono (omega (arith, few)) (z_of f (take i c) y) (partial_within (2 ^ 13) i f c y f_small c_small y_small));
    small = f_small;
    factor = within-coefficient 1 c i c_small;
  }

  pub multiplied_more : {u : List ℤ} → u ≡ add s (scale (coefficient c i) (rotations i f)) → Multiplied f c y u (i + 1)
  multiplied_more e = record { sums = rw (e, so_far.sums) (z_next f c y i below) }

  -- a coefficient 0 adds nothing
  pub multiplied_same : length f ≤ length y → coefficient c i ≡ pos 0 → Multiplied f c y s (i + 1)
  multiplied_same size e = record { sums = so_far.sums ∙ z_skip f c y i below size e }

-- ---- the sums begin with zeros, and the mask comes last
pub zeros_front : (n : ℕ) → n ≤ max_n → length (take n (replicate max_n (pos 0))) ≡ n
zeros_front n h = length-take-le n (replicate max_n (pos 0)) (omega (arith, length-replicate max_n (pos 0)))

pub product_size : (f c : List ℤ) → length f ≤ max_n → length (z_of f c (take (length f) (replicate max_n (pos 0)))) ≡ length f
product_size f c h = let e = zeros_front (length f) h in length_z f c _ (omega (arith, e)) ∙ e

pub mask_last : (f c y : List ℤ) → length f ≤ max_n → length y ≡ length f
    → add (z_of f c (take (length f) (replicate max_n (pos 0)))) y ≡ z_of f c y
mask_last f c y h e =
    add_assoc (star f c) (take (length f) (replicate max_n (pos 0))) y
    ∙ ap (add (star f c)) (ap (λ (s : List ℤ). add s y) (take-replicate (length f) max_n (pos 0) h) ∙ add_zeros (length f) y (omega (arith, e)))
