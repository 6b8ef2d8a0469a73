-- The commitments: what the check recovers is the commitment of the mask that signed, and so is that of the other key's mask.
-- Assumes nothing.
use mathlib.Core.Path.{◌≡◌, refl, sym, ap₂}
use mathlib.Core.List.{List, [], ◌∷◌, head-eq_of_cons-eq, tail-eq_of_cons-eq}
use Prim.Native.Nat.{ℕ}
use lib.IntN.{ℤ}
use lib.ListN.{length}
use Rattle.parameters.specs.declared.Params.{Params}
use Rattle.parameters.specs.Sound.{Sound}
use Rattle.polynomial.specs.Polynomial.{sub, star, z_of}
use Rattle.polynomial.specs.Evaluation.{evaluations, evaluation_residues}
use Rattle.polynomial.proofs.EvaluationLaws.{residue_of_mask, evaluation_other_mask}
use Rattle.scheme.specs.Scheme.{recovered}

module _ {p : Params} (sound : Sound p) (f c y : List ℤ) (size : length f ≡ p.n) where
  pub recovered-z : (exponents : List ℕ)
      → recovered p (record { c = c; z = z_of f c y }) exponents (evaluation_residues p f exponents) ≡ evaluation_residues p y exponents
  unfolding evaluation_residues
  recovered-z [] = refl
  recovered-z (j ∷ js) = ap₂ ◌∷◌ (residue_of_mask sound j f c y size) (recovered-z js)

  -- the mask with which another key h gives the same point, where the public evaluations are equal
  pub evaluations_other_mask : (h : List ℤ) → length h ≡ p.n → (exponents : List ℕ) → evaluations p h exponents ≡ evaluations p f exponents
      → evaluations p (sub (z_of f c y) (star h c)) exponents ≡ evaluations p y exponents
  unfolding evaluations
  evaluations_other_mask h e [] same = refl
  evaluations_other_mask h e (j ∷ js) same =
      ap₂ ◌∷◌ (evaluation_other_mask sound j f h c y size e (sym (head-eq_of_cons-eq same))) (evaluations_other_mask h e js (tail-eq_of_cons-eq same))
