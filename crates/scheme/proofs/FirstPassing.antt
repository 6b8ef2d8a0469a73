-- Signing takes the first mask that passes, and refuses exactly when every mask fails.
-- Assumes nothing.
use mathlib.Core.Path.{◌≡◌, refl, sym, ap, ◌∙◌, subst}
use mathlib.Core.List.{List, [], ◌∷◌}
use mathlib.Core.Logic.{◌↔◌, ⊎_elim}
use mathlib.Core.Option.{none, some, none-ne-some, some-injective}
use Prim.Native.Nat.{ℕ, zero, suc, ◌<◌, zero-le, suc-le-suc}
use native.Mathlib.Nat.{le_of_suc-le-suc, not-suc-le-zero}
use native.Mathlib.Omega.{arith}
use lib.IntN.{ℤ}
use lib.ListN.{length, get_or, take}
use Rattle.parameters.specs.declared.Params.{Params}
use Rattle.scheme.specs.Scheme.{Drawer, Signed, attempt, signing}
use Rattle.scheme.specs.FirstPassing.{FirstPassing, failures}
use Rattle.scheme.proofs.Search.{FailingMasks, Found, fail_tail, first_or_none, signing_found, signing-none}

module _ (draw : Drawer) (p : Params) (exponents message : List ℕ) (f : List ℤ) where
  abbrev found : {ys : List (List ℤ)} {r : Signed} → FirstPassing draw p exponents message f ys r → Found draw p exponents message f ys
  found {r = r} w = record { place = r.passed_over; signature = r.signature; offered = w.offered; passes = w.passes; earlier = w.earlier }

  -- signing accepts with r exactly when r is by the first mask that passes
  pub first_passing_lem : (ys : List (List ℤ)) (r : Signed) → (signing draw p exponents message 0 f ys ≡ some r) ↔ FirstPassing draw p exponents message f ys r
  first_passing_lem ys r = (
    λ e. ⊎_elim
        (λ w. subst (FirstPassing draw p exponents message f ys) (some-injective _ r (sym (signing_found draw p exponents message f ys w) ∙ e))
        (record { offered = w.offered; passes = w.passes; commits = refl; earlier = w.earlier }))
        (λ a. absurd (none-ne-some r (sym (signing-none draw p exponents message f 0 ys a) ∙ e)))
        (first_or_none draw p exponents message f ys),
    λ w. signing_found draw p exponents message f ys (found w)
        ∙ ap (λ (c : List ℤ). some (record { passed_over = r.passed_over; commitment = c; signature = r.signature })) w.commits,
  )

  -- signing refuses exactly when every mask fails
  pub none_passing : (ys : List (List ℤ))
      → (signing draw p exponents message 0 f ys ≡ none) ↔ ((i : ℕ) → i < length ys → attempt draw p exponents message f (get_or ys i []) ≡ none)
  none_passing ys = (
    λ e. ⊎_elim
        (λ w. absurd (none-ne-some _ (sym e ∙ signing_found draw p exponents message f ys w)))
        (λ a. a)
        (first_or_none draw p exponents message f ys),
    signing-none draw p exponents message f 0 ys,
  )

  failures_all : (n : ℕ) (ys : List (List ℤ)) → n < length ys → FailingMasks draw p exponents message f n ys
      → failures draw p exponents message f (take n ys) ≡ n
  failures_all zero ys h a = refl
  failures_all (suc n) [] h a = absurd (not-suc-le-zero h)
  failures_all (suc n) (y ∷ ys) h a =
      rw (a 0 (suc-le-suc zero-le), failures_all n ys (le_of_suc-le-suc h) (fail_tail draw p exponents message f y ys n a)) (omega arith)

  -- the number passed over is the count of earlier masks that fail
  pub passed_over : (ys : List (List ℤ)) (r : Signed) → signing draw p exponents message 0 f ys ≡ some r
      → failures draw p exponents message f (take r.passed_over ys) ≡ r.passed_over
  passed_over ys r e =
      let w = (first_passing_lem ys r).0 e in
      failures_all r.passed_over ys w.offered w.earlier
