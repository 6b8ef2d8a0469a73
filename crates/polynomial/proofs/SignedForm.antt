-- The two forms of an evaluation, signed and in 0..q-1: each gives the other, and for an odd q the signed one is the one integer from -(q-1)/2 to
-- (q-1)/2 with the sum's remainder.
-- Assumes nothing.
use mathlib.Core.Path.{◌≡◌, refl, sym, ap, ap₂, ◌∙◌}
use mathlib.Core.List.{List, [], ◌∷◌, map}
use mathlib.Core.Logic.{◌↔◌}
use Prim.Native.Nat.{ℕ, ◌-◌, ◌/◌, ◌%◌, ◌≤◌}
use native.Mathlib.Omega.{arith}
use lib.Dec.{T, leb, le→leb}
use lib.IntN.{ℤ, nat_abs}
use Rattle.algebra.specs.Integer.{residue, centre, within}
use Rattle.algebra.proofs.Test.{and_intro}
use Rattle.algebra.proofs.Centred.{centred_small, residue-centred, centred_iff}
use Rattle.parameters.specs.declared.Params.{Params}
use Rattle.parameters.specs.Sound.{Sound}
use Rattle.polynomial.specs.Evaluation.{sum_at, evaluation, evaluation_residue, evaluations, evaluation_residues}

-- the law that joins the two forms: the signed form's remainder is the form in 0..q-1
pub evaluation_residue_lem : {p : Params} → Sound p → (f : List ℤ) (j : ℕ) → residue (evaluation p f j) p.q ≡ evaluation_residue p f j
unfolding evaluation evaluation_residue
evaluation_residue_lem {p} sound f j = residue-centred (omega (arith, sound.modulus)) (sum_at p f j)

-- the signed form is exact at both ends: an integer is the evaluation exactly when it is in -(q-1)/2..(q-1)/2 and has that remainder
pub evaluation_exact : {p : Params} → Sound p → p.q % 2 ≡ 1 → (f : List ℤ) (j : ℕ) (e : ℤ)
    → (evaluation p f j ≡ e) ↔ ((nat_abs e ≤ (p.q - 1) / 2) × (residue e p.q ≡ evaluation_residue p f j))
unfolding evaluation evaluation_residue
evaluation_exact {p} sound odd f j e = centred_iff (omega (arith, sound.modulus)) odd (sum_at p f j) e

-- ---- the same of lists
pub evaluations-within : {p : Params} → Sound p → (f : List ℤ) (js : List ℕ) → T (within (p.q / 2) (evaluations p f js))
unfolding evaluation evaluations
evaluations-within sound f [] = tt
evaluations-within {p} sound f (j ∷ js) =
    let small = centred_small {q = p.q} (omega (arith, sound.modulus)) (sum_at p f j) in
    let e = nat_abs (evaluation p f j) in
    and_intro (leb e (p.q / 2)) (within (p.q / 2) (evaluations p f js)) (le→leb e (p.q / 2) (omega arith)) (evaluations-within sound f js)

pub residues_of_evaluations : {p : Params} → Sound p → (f : List ℤ) (js : List ℕ)
    → map (λ (e : ℤ). residue e p.q) (evaluations p f js) ≡ evaluation_residues p f js
unfolding evaluations evaluation_residues
residues_of_evaluations sound f [] = refl
residues_of_evaluations sound f (j ∷ js) = ap₂ ◌∷◌ (evaluation_residue_lem sound f j) (residues_of_evaluations sound f js)

pub centred_residues : (p : Params) (f : List ℤ) (js : List ℕ) → map (λ (r : ℕ). centre r p.q) (evaluation_residues p f js) ≡ evaluations p f js
unfolding evaluation evaluation_residue evaluations evaluation_residues
centred_residues p f [] = refl
centred_residues p f (j ∷ js) = ap {B = List ℤ} (λ (es : List ℤ). evaluation p f j ∷ es) (centred_residues p f js)

-- polynomials with the same evaluations have them in 0..q-1 too
pub same_residues : {p : Params} → Sound p → (f h : List ℤ) (js : List ℕ) → evaluations p f js ≡ evaluations p h js
    → evaluation_residues p f js ≡ evaluation_residues p h js
same_residues {p} sound f h js e =
    sym (residues_of_evaluations sound f js)
    ∙ ap (map (λ (e : ℤ). residue e p.q)) e
    ∙ residues_of_evaluations sound h js
