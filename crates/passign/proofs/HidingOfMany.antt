-- Hiding for a list of signings: for every list of other keys, one for each signing, exactly one list of masks does at every place what the signing
-- there did, it is z minus the product of the other key and the challenge at every place, and at every place the check says yes. A list with no signing has
-- the empty list of masks.
-- Assumes nothing.
use mathlib.Core.Path.{◌≡◌, refl, sym, ap₂, subst}
use mathlib.Core.List.{List, [], ◌∷◌, zip_with, Forall₂}
use mathlib.Core.Logic.{◌↔◌}
use Prim.Native.Nat.{ℕ}
use lib.IntN.{ℤ}
use Rattle.parameters.specs.declared.Params.{Params}
use Rattle.scheme.specs.Scheme.{Drawers}
use Rattle.passign.specs.Hiding.{Encodable, Library, any_library, our_library, SigningRecord, params_of, Accepted, Same, mask_for}
use Rattle.passign.specs.Hiding.{Every, Each₃, Hidden}
use Rattle.passign.proofs.AsDefined.{AsDefined, any_as_defined, ours_as_defined}
use Rattle.passign.proofs.OtherMask.{same_iff}
use Rattle.passign.proofs.Hiding.{exactly_one, checked_yes}

-- ---- exactly one for each is exactly one list

module _ {A B C : Type 0} (R : A → B → C → Type 0) (one : A → B → C) where
  -- whatever stands in the relation is the one
  abbrev Named : A → B → Type 0
  Named a b = (c : C) → R a b c ↔ (c ≡ one a b)

  each_to : {l : List A} {bs : List B} → Forall₂ Named l bs → (cs : List C) → Each₃ R l bs cs → cs ≡ zip_with one l bs
  unfolding zip_with
  each_to Forall₂.nil [] t = refl
  each_to Forall₂.nil (c ∷ cs) t = absurd t
  each_to (Forall₂.cons {a = a} {b = b} {l₁ = l} {l₂ = bs} n ns) [] t = absurd t
  each_to (Forall₂.cons {a = a} {b = b} {l₁ = l} {l₂ = bs} n ns) (c ∷ cs) t = ap₂ ◌∷◌ ((n c).0 t.0) (each_to ns cs t.1)

  each_of : {l : List A} {bs : List B} → Forall₂ Named l bs → Each₃ R l bs (zip_with one l bs)
  unfolding zip_with
  each_of Forall₂.nil = tt
  each_of (Forall₂.cons {a = a} {b = b} {l₁ = l} {l₂ = bs} n ns) = ((n (one a b)).1 refl, each_of ns)

  each_exactly : {l : List A} {bs : List B} → Forall₂ Named l bs → (cs : List C) → Each₃ R l bs cs ↔ (cs ≡ zip_with one l bs)
  each_exactly {l} {bs} n cs = (each_to n cs, λ e. subst (λ (x : List C). Each₃ R l bs x) (sym e) (each_of n))

-- what follows at each place
every_map : {A : Type 0} {P Q : A → Type 0} → ((a : A) → P a → Q a) → (l : List A) → Every P l → Every Q l
every_map f [] t = tt
every_map f (a ∷ l) t = (f a t.0, every_map f l t.1)

each_map : {A B : Type 0} {P : A → Type 0} {Q R : A → B → Type 0} → ((a : A) → P a → (b : B) → Q a b → R a b)
    → {l : List A} {bs : List B} → Forall₂ Q l bs → Every P l → Forall₂ R l bs
each_map f Forall₂.nil p = Forall₂.nil
each_map f (Forall₂.cons {a = a} {b = b} {l₁ = l} {l₂ = bs} t ts) p = Forall₂.cons (f a p.0 b t) (each_map f ts p.1)

-- ---- from one signing to lists

hidden : (l : Library) (ms : List SigningRecord) → Every (AsDefined l) ms → Hidden l ms
hidden l ms f others o =
    let exactly = each_exactly (Same l) (mask_for l) (each_map (λ m f. same_iff f) o f) in
    record { one = exactly_one (zip_with (mask_for l) ms others) exactly; exactly = exactly; yes = each_map (λ m f. checked_yes f) o f }

-- any numbering of sets, with any way to draw for each rule
pub hiding_of_many : (set : ℕ → Params) (draw : Drawers) (ms : List SigningRecord)
    → Every (λ (m : SigningRecord). Encodable (draw m.call.rule) (params_of (any_library set draw) m) × Accepted (any_library set draw) m) ms
    → Hidden (any_library set draw) ms
hiding_of_many set draw ms accepted = hidden (any_library set draw) ms (every_map (λ m a. any_as_defined m a.0 a.1) ms accepted)

-- the entries `sign` and `check`, each signing in one of the five sets
pub entry_hiding_of_many : (ms : List SigningRecord) → Every (Accepted our_library) ms → Hidden our_library ms
entry_hiding_of_many ms accepted = hidden our_library ms (every_map ours_as_defined ms accepted)

-- no signing: the empty list of masks, and no other
pub no_mask_for_none : (l : Library) (ys : List (List ℤ)) → Each₃ (Same l) [] [] ys ↔ (ys ≡ [])
unfolding zip_with
no_mask_for_none l = (hidden l [] tt [] Forall₂.nil).exactly
