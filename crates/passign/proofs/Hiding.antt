-- Hiding: whatever a library accepts, every other ternary key of the set with the same evaluations at the points would have signed alike, by exactly one
-- mask within k: the signature's z minus the product of that key and the signature's challenge. And the check says yes under that key too. Both keys
-- sign, and the check judges, under the rule of that signing.
-- Assumes nothing.
use mathlib.Core.Path.{◌≡◌, refl, ap₂, ◌∙◌}
use mathlib.Core.List.{List}
use mathlib.Core.Logic.{◌↔◌}
use Prim.Native.Nat.{ℕ}
use lib.IntN.{ℤ}
use Rattle.parameters.specs.declared.Params.{Params}
use Rattle.polynomial.proofs.SignedForm.{same_residues}
use Rattle.encoding.specs.Encoding.{key_of, public_key}
use Rattle.scheme.specs.Scheme.{Drawers}
use Rattle.values.specs.Keys.{public_key_in}
use Rattle.passign.specs.Hiding.{Encodable, Library, any_library, our_library, SigningRecord, params_of, Accepted}
use Rattle.passign.specs.Hiding.{OtherKey, Same, CheckedYes, mask_for, ExactlyOne}
use Rattle.passign.proofs.AsDefined.{AsDefined, any_as_defined, ours_as_defined}
use Rattle.passign.proofs.OtherMask.{same_iff}

-- where what does is named, exactly one does
unfoldable pub exactly_one : {A : Type 0} {P : A → Type 0} (a : A) → ((x : A) → P x ↔ (x ≡ a)) → ExactlyOne P
exactly_one a h = record { it = a; does = (h a).1 refl; only = λ x. (h x).0 }

-- the public key of the other key is that of the key that signed
pub checked_yes : {l : Library} {m : SigningRecord} → AsDefined l m → (other : List ℕ) → OtherKey l m other → CheckedYes l m other
unfolding public_key_in
checked_yes {l} {m} f other o = record {
  answer = ap₂ (λ (s : ℕ) (vs : List ℕ). l.checks m.call.rule (public_key s m.call.exponents vs) m.call.message m.bytes) o.set
      (same_residues f.encodable.sound (key_of other) (key_of m.call.key) m.call.exponents o.same) ∙ f.checks;
}

-- any numbering of sets, with any way to draw for each rule
module _ (set : ℕ → Params) (draw : Drawers) (m : SigningRecord) (e : Encodable (draw m.call.rule) (params_of (any_library set draw) m))
    (accepted : Accepted (any_library set draw) m) (other : List ℕ) (o : OtherKey (any_library set draw) m other) where
  -- a mask does what the signing did exactly when it is z - other ⋆ c
  pub hiding_exactly : (y : List ℤ) → Same (any_library set draw) m other y ↔ (y ≡ mask_for (any_library set draw) m other)
  hiding_exactly = same_iff (any_as_defined m e accepted) other o

  -- so exactly one mask does
  unfoldable pub hiding : ExactlyOne (Same (any_library set draw) m other)
  hiding = exactly_one (mask_for (any_library set draw) m other) hiding_exactly

  -- and the check says yes to the signature under the other key
  pub hiding_verdict : CheckedYes (any_library set draw) m other
  hiding_verdict = checked_yes (any_as_defined m e accepted) other o

-- the entries, in the five sets
module _ (m : SigningRecord) (accepted : Accepted our_library m) (other : List ℕ) (o : OtherKey our_library m other) where
  pub entry_hiding_exactly : (y : List ℤ) → Same our_library m other y ↔ (y ≡ mask_for our_library m other)
  entry_hiding_exactly = same_iff (ours_as_defined m accepted) other o

  unfoldable pub entry_hiding : ExactlyOne (Same our_library m other)
  entry_hiding = exactly_one (mask_for our_library m other) entry_hiding_exactly

  pub entry_hiding_verdict : CheckedYes our_library m other
  entry_hiding_verdict = checked_yes (ours_as_defined m accepted) other o
