-- Hiding: whatever signing accepts, every ternary key with the same public evaluations would have signed alike, by exactly one mask within k:
-- the signature's z minus the product of that key and the signature's challenge.
-- Assumes nothing.
use mathlib.Core.Path.{◌≡◌, sym, subst}
use mathlib.Core.List.{List, []}
use mathlib.Core.Logic.{◌↔◌}
use mathlib.Core.Option.{some}
use Prim.Native.Nat.{ℕ, ◌<◌}
use lib.Dec.{T}
use lib.IntN.{ℤ}
use lib.ListN.{length, get_or}
use Rattle.parameters.specs.declared.Params.{Params}
use Rattle.parameters.specs.Sound.{Sound}
use Rattle.polynomial.specs.Polynomial.{sub, star, ternary}
use Rattle.polynomial.specs.Evaluation.{evaluations}
use Rattle.scheme.specs.Scheme.{Drawer, Signed, SparseDrawer, signing}
use Rattle.scheme.specs.Hiding.{SameSigning}
use Rattle.scheme.proofs.Attempt.{attempt_iff}
use Rattle.scheme.proofs.FirstPassing.{first_passing_lem}
use Rattle.scheme.proofs.OtherMask.{other_only, other_gives}

module _ (draw : Drawer) {p : Params} (sound : Sound p) (draws : SparseDrawer draw p) (exponents message : List ℕ)
    -- an accepted signing with key f and masks ys
    (f : List ℤ) (ys : List (List ℤ)) (r : Signed) (size-f : length f ≡ p.n) (size-ys : (i : ℕ) → i < length ys → length (get_or ys i []) ≡ p.n)
    (accepted : signing draw p exponents message 0 f ys ≡ some r)
    -- another ternary key h with the same public evaluations
    (h : List ℤ) (size-h : length h ≡ p.n) (ternary-h : T (ternary h)) (same : evaluations p h exponents ≡ evaluations p f exponents) where
  -- a mask gives the same commitment and signature with h exactly when it is z - h ⋆ c
  pub hiding_exactly : (y : List ℤ)
      → SameSigning draw p exponents message h r.commitment r.signature y ↔ (y ≡ sub r.signature.z (star h r.signature.c))
  hiding_exactly y =
      let w = (first_passing_lem draw p exponents message f ys r).0 accepted in
      let signer = get_or ys r.passed_over [] in
      let a = (attempt_iff draw p exponents message f signer r.signature).0 w.passes in
      let size-y = size-ys r.passed_over w.offered in
      let g = other_gives draw p exponents message h size-h r.signature sound draws ternary-h f signer size-f size-y same a in (
        other_only draw p exponents message h size-h r.signature r.commitment y,
        λ e. subst (SameSigning draw p exponents message h r.commitment r.signature) (sym e)
            (subst (λ (c : List ℤ). SameSigning draw p exponents message h c r.signature (sub r.signature.z (star h r.signature.c))) w.commits g),
      )
