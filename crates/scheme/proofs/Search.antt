-- The search of signing through the masks, whatever number was passed over before them.
-- Assumes nothing.
use mathlib.Core.Path.{◌≡◌, refl, ap, ◌∙◌}
use mathlib.Core.List.{List, [], ◌∷◌}
use mathlib.Core.Logic.{◌⊎◌, inl, inr}
use mathlib.Core.Option.{Option, none, some}
use Prim.Native.Nat.{ℕ, zero, suc, ◌+◌, ◌<◌, zero-le, suc-le-suc}
use native.Mathlib.Nat.{le_of_suc-le-suc, not-suc-le-zero, zero-add}
use native.Mathlib.Omega.{arith}
use lib.IntN.{ℤ}
use lib.ListN.{length, get_or}
use Rattle.parameters.specs.declared.Params.{Params}
use Rattle.polynomial.specs.Evaluation.{evaluations}
use Rattle.scheme.specs.Scheme.{Drawer, Signature, Signed, attempt, signing}

module _ (draw : Drawer) (p : Params) (exponents message : List ℕ) (f : List ℤ) where
  -- the first n masks fail
  abbrev pub FailingMasks : ℕ → List (List ℤ) → Type 0
  FailingMasks n ys = (i : ℕ) → i < n → attempt draw p exponents message f (get_or ys i []) ≡ none

  -- the mask that passes first
  pub record Found (ys : List (List ℤ)) : Type 0 where
    pub place : ℕ
    pub signature : Signature
    pub offered : place < length ys
    pub passes : attempt draw p exponents message f (get_or ys place []) ≡ some signature
    pub earlier : FailingMasks place ys

  fail_cons : (y : List ℤ) (ys : List (List ℤ)) (n : ℕ) → attempt draw p exponents message f y ≡ none → FailingMasks n ys → FailingMasks (suc n) (y ∷ ys)
  fail_cons y ys n e a zero h = e
  fail_cons y ys n e a (suc i) h = a i (le_of_suc-le-suc h)

  pub fail_tail : (y : List ℤ) (ys : List (List ℤ)) (n : ℕ) → FailingMasks (suc n) (y ∷ ys) → FailingMasks n ys
  fail_tail y ys n a i h = a (suc i) (suc-le-suc h)

  -- a mask passes first, or all fail
  search_cons : (y : List ℤ) (ys : List (List ℤ)) (o : Option Signature) → attempt draw p exponents message f y ≡ o
      → Found ys ⊎ FailingMasks (length ys) ys → Found (y ∷ ys) ⊎ FailingMasks (suc (length ys)) (y ∷ ys)
  search_cons y ys (some s) e rest =
      inl (record { place = 0; signature = s; offered = suc-le-suc zero-le; passes = e; earlier = λ i h. absurd (not-suc-le-zero h) })
  search_cons y ys none e (inl w) =
      inl (record {
        place = suc w.place;
        signature = w.signature;
        offered = suc-le-suc w.offered;
        passes = w.passes;
        earlier = fail_cons y ys w.place e w.earlier;
      })
  search_cons y ys none e (inr a) = inr (fail_cons y ys (length ys) e a)

  pub first_or_none : (ys : List (List ℤ)) → Found ys ⊎ FailingMasks (length ys) ys
  first_or_none [] = inr (λ i h. absurd (not-suc-le-zero h))
  first_or_none (y ∷ ys) = search_cons y ys (attempt draw p exponents message f y) refl (first_or_none ys)

  -- the signing by mask y with signature s, n masks passed over
  abbrev signed : ℕ → List ℤ → Signature → Option Signed
  signed n y s = some (record { passed_over = n; commitment = evaluations p y exponents; signature = s })

  -- what signing gives in each case
  signing_first : (n i : ℕ) (ys : List (List ℤ)) (s : Signature) → i < length ys → attempt draw p exponents message f (get_or ys i []) ≡ some s
      → FailingMasks i ys → signing draw p exponents message n f ys ≡ signed (n + i) (get_or ys i []) s
  signing_first n i [] s h e a = absurd (not-suc-le-zero h)
  signing_first n zero (y ∷ ys) s h e a = rw e (ap (λ (m : ℕ). signed m y s) (omega arith))
  signing_first n (suc i) (y ∷ ys) s h e a =
      rw (a 0 (suc-le-suc zero-le))
      (signing_first (suc n) i ys s (le_of_suc-le-suc h) e (fail_tail y ys i a) ∙ ap (λ (m : ℕ). signed m (get_or ys i []) s) (omega arith))

  pub signing_found : (ys : List (List ℤ)) (w : Found ys) → signing draw p exponents message 0 f ys ≡ signed w.place (get_or ys w.place []) w.signature
  signing_found ys w =
      signing_first 0 w.place ys w.signature w.offered w.passes w.earlier
      ∙ ap (λ (m : ℕ). signed m (get_or ys w.place []) w.signature) (zero-add w.place)

  pub signing-none : (n : ℕ) (ys : List (List ℤ)) → FailingMasks (length ys) ys → signing draw p exponents message n f ys ≡ none
  signing-none n [] a = refl
  signing-none n (y ∷ ys) a = rw (a 0 (suc-le-suc zero-le)) (signing-none (suc n) ys (fail_tail y ys (length ys) a))
