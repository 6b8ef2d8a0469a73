-- An accepted signing: the signing on polynomials behind it, and the mask that signed.
-- Assumes nothing.
use mathlib.Core.Path.{◌≡◌, refl, sym, ap, ◌∙◌}
use mathlib.Core.List.{List, []}
use mathlib.Core.Logic.Iff
use mathlib.Core.Option.{Option, none, some}
use Prim.Native.Nat.{ℕ, ◌<◌}
use native.Mathlib.Omega.{arith}
use lib.Dec.{eqb}
use lib.IntN.{ℤ}
use lib.ListN.{length, get_or}
use Rattle.parameters.specs.declared.Params.{Params}
use Rattle.polynomial.specs.Evaluation.{evaluations, evaluation_residues}
use Rattle.encoding.specs.Encoding.{key_of}
use Rattle.scheme.specs.Scheme.{Drawers, Signed, signing}
use Rattle.scheme.specs.FirstPassing.{FirstPassing}
use Rattle.scheme.proofs.Attempt.{PassingMask, attempt_iff}
use Rattle.scheme.proofs.FirstPassing.{first_passing_lem}
use Rattle.signing.specs.Signer.{offered_count, masks_of, mask_at, signature_of, signed_by}
use Rattle.signing.proofs.OfferedMasks.{masks_count, mask_at_lem}
use Rattle.refusal.specs.Signing as answer
use Rattle.refusal.specs.Answer.{set_byte}
use Rattle.signing.specs.Sign.{sign_refusal_in, signed_answer, signing_after, sign_answer_in, sign_written_in}
use Rattle.refusal.proofs.Apart.{refused_not_signed}
use Rattle.refusal.proofs.Chain.{chosen, equal_iff}
use Rattle.signing.proofs.Allowed.{SignAllowed, sign_allowed}
use Rattle.encoding.proofs.EncodedKey.{key_size}

signed_by_lem : (o : Option Signed) {i : ℕ} → signed_answer o ≡ answer.Signed i → (r : Signed) × ((o ≡ some r) × (r.passed_over ≡ i))
signed_by_lem none e = absurd (refused_not_signed e)
signed_by_lem (some r) e = (r, (refl, cc))

-- whatever is accepted is not refused, and the masks sign
pub accepted : (refusal : ℕ) (o : Option Signed) {i : ℕ} → signing_after refusal o ≡ answer.Signed i
    → (refusal ≡ 0) × ((r : Signed) × ((o ≡ some r) × (r.passed_over ≡ i)))
accepted refusal o e = let h = (chosen (eqb refusal 0) refused_not_signed Iff.rfl).0 e in (equal_iff.0 h.0, signed_by_lem o h.1)

module _ (draw : Drawers) (rule : ℕ) (p : Params) (key exponents : List ℕ) (masks : List ℤ) (message out : List ℕ) where
  -- no test refuses, and the masks give the signing r, by mask number i
  pub record SignedAs (r : Signed) (i : ℕ) : Type 0 where
    pub allowed : sign_refusal_in rule p key exponents masks (length out) ≡ 0
    pub signs : signed_by (draw rule) p (key_of key) exponents masks message ≡ some r
    pub place : r.passed_over ≡ i

  -- whatever is accepted is such a signing
  pub accepted_signing : {i : ℕ} → sign_answer_in draw rule p key exponents masks message out ≡ answer.Signed i → (r : Signed) × SignedAs r i
  unfolding sign_answer_in
  accepted_signing e =
      let signed = signed_by (draw rule) p (key_of key) exponents masks message in
      let (allowed, (r, (signs, place))) = accepted (sign_refusal_in rule p key exponents masks (length out)) signed e in
      (r, record { allowed = allowed; signs = signs; place = place })

module _ {draw : Drawers} {rule : ℕ} {p : Params} {key exponents : List ℕ} {masks : List ℤ} {message out : List ℕ} {r : Signed} {i : ℕ}
    (a : SignedAs draw rule p key exponents masks message out r i) where
  -- what the signing answers and writes
  pub signed_answer_lem : sign_answer_in draw rule p key exponents masks message out ≡ answer.Signed i
  unfolding sign_answer_in
  signed_answer_lem = rw (equal_iff.1 a.allowed, a.signs, a.place)

  pub signed_bytes_lem : sign_written_in draw rule p key exponents masks message out ≡ signature_of (set_byte key) r.signature
  unfolding sign_written_in
  signed_bytes_lem = rw (equal_iff.1 a.allowed, a.signs)

  -- and what its inputs and its mask are
  pub signing_of : signing (draw rule) p exponents message 0 (key_of key) (masks_of p masks) ≡ some r
  unfolding signed_by
  signing_of = a.signs

  pub allowed_of : SignAllowed rule p key exponents masks (length out)
  allowed_of = (sign_allowed rule p key exponents masks (length out)).0 a.allowed

  pub size_of_key : length (key_of key) ≡ p.n
  size_of_key = key_size p key allowed_of.key_size

  pub first_of : FirstPassing (draw rule) p exponents message (key_of key) (masks_of p masks) r
  first_of = (first_passing_lem (draw rule) p exponents message (key_of key) (masks_of p masks) r).0 signing_of

  pub offered : i < offered_count p masks
  offered = omega (arith, first_of.offered, a.place, masks_count p masks)

  -- mask number i, from the list of masks
  mask_of : get_or (masks_of p masks) r.passed_over [] ≡ mask_at p masks i
  mask_of = ap (λ (j : ℕ). get_or (masks_of p masks) j []) a.place ∙ mask_at_lem p masks i offered

  pub passes_of : PassingMask p (key_of key) (mask_at p masks i) (draw rule p (evaluation_residues p (mask_at p masks i) exponents) message) r.signature
  passes_of =
      let y = get_or (masks_of p masks) r.passed_over [] in
      rw mask_of at ((attempt_iff (draw rule) p exponents message (key_of key) y r.signature).0 first_of.passes)

  pub commitment_of : evaluations p (mask_at p masks i) exponents ≡ r.commitment
  commitment_of = ap (λ (y : List ℤ). evaluations p y exponents) (sym mask_of) ∙ first_of.commits
