-- A mask offered alone with another key: on bytes it does what a signing did exactly when it does so on polynomials, so when it is z - other ⋆ c.
-- Assumes nothing.
use mathlib.Core.Path.{◌≡◌, refl, sym, ap, ◌∙◌}
use mathlib.Core.Bool.{true}
use mathlib.Core.List.{List, [], ◌∷◌}
use mathlib.Core.Logic.Iff
use mathlib.Core.Logic.{◌↔◌}
use mathlib.Core.Option.{some}
use Prim.Native.Nat.{ℕ, ◌*◌, ◌<◌}
use native.Mathlib.Nat.{mod_self}
use native.Mathlib.Omega.{arith}
use lib.IntN.{ℤ}
use lib.ListN.{length, get_or}
use borrow.Author.Tests.{le-leb}
use Rattle.algebra.proofs.Test.{holds_true}
use Rattle.algebra.specs.Integer.{within}
use Rattle.parameters.specs.declared.Params.{Params}
use Rattle.parameters.specs.Limits.{max_masks}
use Rattle.polynomial.specs.Evaluation.{evaluations}
use Rattle.encoding.specs.Encoding.{key_of}
use Rattle.scheme.specs.Scheme.{Drawer, Signature, Signed, signing}
use Rattle.scheme.specs.Hiding.{SameSigning}
use Rattle.scheme.proofs.Attempt.{attempt_iff}
use Rattle.scheme.proofs.FirstPassing.{first_passing_lem}
use Rattle.scheme.proofs.Hiding as polynomials
use Rattle.signing.specs.Signer.{offered_count, masks_of, signature_of, signed_by}
use Rattle.signing.proofs.OfferedMasks.{masks_count, mask_at_lem, mask_size}
use Rattle.signing.specs.Sign.{are_masks}
use Rattle.checking.specs.Check.{signature_read}
use Rattle.passign.specs.Hiding.{Library, SigningRecord, params_of, drawer_of, signature_in, OtherKey, Same, mask_for}
use Rattle.signing.proofs.Allowed.{sign_allowed}
use Rattle.signing.proofs.Masks.{mask_alone}
use Rattle.encoding.proofs.EncodedKey.{key_size, key_ternary}
use Rattle.signing.proofs.AcceptedSigning.{SignedAs, accepted_signing, signed_answer_lem, signed_bytes_lem, signing_of, allowed_of, size_of_key, commitment_of}
use Rattle.passign.proofs.AcceptedBytes.{meaning}
use Rattle.passign.proofs.AsDefined.{AsDefined}

-- one mask is a whole number of masks, and few enough
one_mask_lem : (p : Params) (y : List ℤ) → length y ≡ p.n → are_masks p y ≡ true
one_mask_lem p y e = rw (e, mod_self p.n) (le-leb p.n (max_masks * p.n) (omega arith))

module _ {l : Library} {m : SigningRecord} (f : AsDefined l m) where
  -- the points and the message of both signings, their set, and the way to draw
  abbrev exponents : List ℕ
  exponents = m.call.exponents

  abbrev message : List ℕ
  message = m.call.message

  abbrev p : Params
  p = params_of l m

  abbrev draw : Drawer
  draw = drawer_of l m

  -- a signing under the rule
  abbrev Signing : List ℕ → List ℤ → Signed → ℕ → Type 0
  Signing key masks = SignedAs l.draw m.call.rule p key exponents masks message m.call.out

  module _ {r : Signed} (a : Signing m.call.key m.call.masks r m.mask) where
    meant : signature_in l m ≡ r.signature
    meant = ap (signature_read p) f.bytes ∙ meaning a f.encodable

    module _ (other : List ℕ) (o : OtherKey l m other) (y : List ℤ) where
      -- the signing with the other key and the mask alone, on polynomials: its commitment and its signature are those of r
      abbrev Alike : Type 0
      Alike = SameSigning draw p exponents message (key_of other) r.commitment r.signature y

      alone : length y ≡ p.n → signed_by draw p (key_of other) exponents y message ≡ signing draw p exponents message 0 (key_of other) (y ∷ [])
      unfolding signed_by
      alone size =
          ap (signing draw p exponents message 0 (key_of other)) (mask_alone p y (omega (arith, f.encodable.fitting.exponents)) size)

      module _ (g : Alike) where
        signed_alone : Signing other y (record { passed_over = 0; commitment = r.commitment; signature = r.signature }) 0
        signed_alone =
            let k = allowed_of a in
            record {
              allowed = (sign_allowed m.call.rule p other exponents y (length m.call.out)).1 (record {
                key_size = o.size;
                exponents_size = k.exponents_size;
                masks_size = one_mask_lem p y g.size;
                room_size = k.room_size;
                rule_known = k.rule_known;
                exponents_rise = k.exponents_rise;
                ternary = o.ternary;
                small = holds_true (within p.k y) g.small;
              });
              signs = alone g.size ∙ g.signs;
              place = refl;
            }

        same_of_alike : Same l m other y
        same_of_alike =
            let w = (first_passing_lem draw p exponents message (key_of other) (y ∷ []) _).0 g.signs in
            record {
              size = g.size;
              small = g.small;
              commitment = w.commits ∙ sym (commitment_of a);
              challenge =
                  ((attempt_iff draw p exponents message (key_of other) y r.signature).0 w.passes).challenge
                  ∙ ap (λ (s : Signature). some s.c) (sym meant);
              answer = f.signs other o y ∙ signed_answer_lem signed_alone;
              bytes =
                  f.writes other o y ∙ signed_bytes_lem signed_alone ∙ ap (λ (s : ℕ). signature_of s r.signature) o.set
                  ∙ sym (f.bytes ∙ signed_bytes_lem a);
            }

      -- the bytes decide the signature, since they are read back
      alike_of_same : Same l m other y → {t : Signed} → Signing other y t 0 → Alike
      alike_of_same s {t} v =
          let signs = sym (alone s.size) ∙ v.signs in
          let signature : t.signature ≡ r.signature =
          sym (meaning v f.encodable) ∙ ap (signature_read p) (sym (f.writes other o y) ∙ s.bytes) ∙ meant in
          let commitment : t.commitment ≡ r.commitment =
          sym ((first_passing_lem draw p exponents message (key_of other) (y ∷ []) t).0 signs).commits
          ∙ ap (λ (j : ℕ). evaluations p (get_or (y ∷ []) j []) exponents) v.place ∙ s.commitment ∙ commitment_of a in
          record { size = s.size; small = s.small; signs = signs ∙ ap some (rw (← v.place, ← commitment, ← signature)) }

      -- the law on polynomials
      alike_iff : Alike ↔ (y ≡ mask_for l m other)
      alike_iff =
          let masks = m.call.masks in
          let sizes : (j : ℕ) → j < length (masks_of p masks) → length (get_or (masks_of p masks) j []) ≡ p.n = λ j h.
          let h : j < offered_count p masks = omega (arith, masks_count p masks) in
          ap length (mask_at_lem p masks j h) ∙ mask_size p masks j h in
          rw meant
          (polynomials.hiding_exactly draw f.encodable.sound f.encodable.draws exponents message
          (key_of m.call.key) (masks_of p masks) r (size_of_key a) sizes (signing_of a)
          (key_of other) (key_size p other o.size) (key_ternary other o.ternary) o.same y)

  -- so it does exactly when it is z - other ⋆ c
  pub same_iff : (other : List ℕ) → OtherKey l m other → (y : List ℤ) → Same l m other y ↔ (y ≡ mask_for l m other)
  same_iff other o y =
      let a = (accepted_signing l.draw m.call.rule p m.call.key exponents m.call.masks message m.call.out f.accepted).1 in
      let with-other = accepted_signing l.draw m.call.rule p other exponents y message m.call.out in
      Iff.trans (λ s. alike_of_same a other o y s (with-other (sym (f.signs other o y) ∙ s.answer)).1, same_of_alike a other o y) (alike_iff a other o y)
