-- The mask with which another key gives the same signature: z minus the product of that key and the challenge.
-- It is within k, offered alone it signs, and no other mask does.
-- Assumes nothing.
use mathlib.Core.Path.{◌≡◌, sym, ap, ◌∙◌}
use mathlib.Core.List.{List, [], ◌∷◌}
use Prim.Native.Nat.{ℕ, ◌-◌, ◌≤◌, zero-le, suc-le-suc}
use native.Mathlib.Nat.{not-suc-le-zero, le_of_eq}
use native.Mathlib.Omega.{arith}
use lib.Dec.{T}
use lib.IntN.{ℤ}
use lib.ListN.{length}
use Rattle.algebra.specs.Integer.{within}
use Rattle.parameters.specs.declared.Params.{Params}
use Rattle.parameters.specs.Sound.{Sound}
use Rattle.polynomial.specs.Polynomial.{sub, star, ternary}
use Rattle.polynomial.specs.Evaluation.{evaluations, evaluation_residues}
use Rattle.polynomial.proofs.Linear.{length-star, length-sub, length_z, add_of_sub, sub_of_add}
use Rattle.polynomial.proofs.SignedForm.{same_residues}
use Rattle.polynomial.proofs.Bound.{within_mono, within-sub}
use Rattle.polynomial.proofs.Sparse.{product_within}
use Rattle.scheme.specs.Scheme.{Drawer, Signature, SparseDrawer}
use Rattle.scheme.specs.Hiding.{SameSigning}
use Rattle.scheme.proofs.Attempt.{PassingMask, attempt_iff}
use Rattle.scheme.proofs.Commitment.{evaluations_other_mask}
use Rattle.scheme.proofs.FirstPassing.{first_passing_lem}

abbrev other : List ℤ → Signature → List ℤ
other h s = sub s.z (star h s.c)

module _ (draw : Drawer) (p : Params) (exponents message : List ℕ) (h : List ℤ) (size-h : length h ≡ p.n) (s : Signature) where
  pub other_only : (w y : List ℤ) → SameSigning draw p exponents message h w s y → y ≡ other h s
  other_only w y g =
      let a = (attempt_iff draw p exponents message h y s).0 ((first_passing_lem draw p exponents message h (y ∷ []) _).0 g.signs).passes in
      sym (sub_of_add (star h s.c) y (omega (arith, length-star h s.c, size-h, g.size)))
      ∙ ap (λ (z : List ℤ). sub z (star h s.c)) (sym a.is_z)

  -- the mask y passes with the key f, whose public evaluations are those of h
  module _ (sound : Sound p) (draws : SparseDrawer draw p) (ternary-h : T (ternary h)) (f y : List ℤ) (size-f : length f ≡ p.n) (size-y : length y ≡ p.n)
      (same : evaluations p h exponents ≡ evaluations p f exponents) (a : PassingMask p f y (draw p (evaluation_residues p y exponents) message) s) where
    size_z : length s.z ≡ p.n
    size_z = ap length a.is_z ∙ length_z f s.c y (le_of_eq (size-f ∙ sym size-y)) ∙ size-y

    short : length (star h s.c) ≤ length s.z
    short = omega (arith, length-star h s.c, size-h, size_z)

    other_small : T (within p.k (other h s))
    other_small =
        within_mono (omega (arith, sound.room)) (other h s)
        (within-sub (p.k - p.b) p.b s.z (star h s.c) a.range
        (product_within (draws (evaluation_residues p y exponents) message s.c a.challenge) h ternary-h))

    other_commits : evaluations p (other h s) exponents ≡ evaluations p y exponents
    other_commits =
        ap (λ (z : List ℤ). evaluations p (sub z (star h s.c)) exponents) a.is_z
        ∙ evaluations_other_mask sound f s.c y size-f h size-h exponents same

    other_passes : PassingMask p h (other h s) (draw p (evaluation_residues p (other h s) exponents) message) s
    other_passes = record {
      challenge = ap (λ (w : List ℕ). draw p w message) (same_residues sound (other h s) y exponents other_commits) ∙ a.challenge;
      is_z = sym (add_of_sub (star h s.c) s.z short);
      range = a.range;
    }

    pub other_gives : SameSigning draw p exponents message h (evaluations p y exponents) s (other h s)
    other_gives = record {
      size = length-sub s.z (star h s.c) short ∙ size_z;
      small = other_small;
      signs =
          (first_passing_lem draw p exponents message h (other h s ∷ []) (record { passed_over = 0; commitment = evaluations p y exponents; signature = s })).1
          (record {
            offered = suc-le-suc zero-le;
            passes = (attempt_iff draw p exponents message h (other h s) s).1 other_passes;
            commits = other_commits;
            earlier = λ i l. absurd (not-suc-le-zero l);
          });
    }
