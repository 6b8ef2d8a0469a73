-- Correctness: the check says yes to every signature that signing gives. Only the key needs N coefficients; masks and draw may be any.
-- Assumes nothing.
use mathlib.Core.Path.{◌≡◌, ap, ◌∙◌}
use mathlib.Core.Bool.{true}
use mathlib.Core.List.{List, []}
use mathlib.Core.Option.{some}
use Prim.Native.Nat.{ℕ, ◌-◌}
use lib.IntN.{ℤ}
use lib.ListN.{length, get_or}
use Rattle.parameters.specs.declared.Params.{Params}
use Rattle.parameters.specs.Sound.{Sound}
use Rattle.polynomial.specs.Evaluation.{evaluation_residues}
use Rattle.scheme.specs.Scheme.{Drawer, Signed, recovered, signing, verdict}
use Rattle.scheme.proofs.Within.{within_iff}
use Rattle.scheme.proofs.Attempt.{attempt_iff}
use Rattle.scheme.proofs.Commitment.{recovered-z}
use Rattle.scheme.proofs.FirstPassing.{first_passing_lem}
use Rattle.scheme.proofs.Verdict.{verdict-true}

pub correctness : (draw : Drawer) {p : Params} → Sound p → (exponents message : List ℕ) (f : List ℤ) (ys : List (List ℤ)) (r : Signed)
    → length f ≡ p.n → signing draw p exponents message 0 f ys ≡ some r
    → verdict draw p exponents message (evaluation_residues p f exponents) r.signature ≡ true
correctness draw {p} sound exponents message f ys r size accepted =
    let s = r.signature in
    let y = get_or ys r.passed_over [] in
    let a = (attempt_iff draw p exponents message f y s).0 ((first_passing_lem draw p exponents message f ys r).0 accepted).passes in
    (verdict-true draw p exponents message (evaluation_residues p f exponents) s).1 (record {
      range = (within_iff (p.k - p.b) s.z).0 a.range;
      challenge =
          ap (λ (z : List ℤ). draw p (recovered p (record { c = s.c; z = z }) exponents (evaluation_residues p f exponents)) message) a.is_z
          ∙ ap (λ (w : List ℕ). draw p w message) (recovered-z sound f s.c y size exponents)
          ∙ a.challenge;
    })
