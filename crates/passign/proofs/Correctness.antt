-- Correctness: whatever `sign` accepts, `check` under the same rule of hashing says yes to it with the public key of the same secret key and points.
-- Assumes nothing.
use mathlib.Core.Path.{◌≡◌, sym, ap, ◌∙◌}
use mathlib.Core.Bool.{true}
use mathlib.Core.List.{List}
use Prim.Native.Nat.{ℕ}
use lib.IntN.{ℤ}
use borrow.Author.Tests.{ltb-true}
use Rattle.algebra.proofs.Test.{holds_true}
use Rattle.parameters.specs.declared.Params.{Params}
use Rattle.polynomial.specs.Evaluation.{evaluation_residues}
use Rattle.polynomial.proofs.EvaluationLaws.{length-evaluation_residues, evaluation_residues_below}
use Rattle.challenge.specs.Draw.{draw_challenge}
use Rattle.encoding.specs.Encoding.{public_key, PublicKeyRange, are_exponents, are_evaluations, exponents_of, evaluations_of, key_of, signature_bytes}
use Rattle.encoding.proofs.Range.{public_key_range}
use Rattle.encoding.proofs.OneEncoding.{exponents_read_back, evaluations_read_back, public_key-length}
use Rattle.scheme.specs.Scheme.{Drawers, Signed}
use Rattle.scheme.proofs.Correctness as polynomials
use Rattle.scheme.proofs.Verdict.{verdict-true}
use Rattle.refusal.specs.Signing as signing
use Rattle.refusal.specs.Verdict as verdict
use Rattle.refusal.specs.Answer.{set_byte, set_in}
use Rattle.signing.specs.Signer.{masks_of, signature_of}
use Rattle.signing.specs.Sign.{sign_answer_in, sign_written_in, sign_answer, sign_written}
use Rattle.signing.proofs.AcceptedSigning.{SignedAs, signed_bytes_lem, accepted_signing, signing_of, allowed_of, size_of_key}
use Rattle.checking.specs.Check.{check_refusal_in, check_answer_in, check_answer}
use Rattle.checking.proofs.Allowed.{check_allowed}
use Rattle.values.specs.Keys.{public_key_refusal, public_key_in, public_key_written}
use Rattle.passign.specs.VerdictRule.{Rule}
use Rattle.passign.specs.Hiding.{Encodable}
use Rattle.passign.proofs.AcceptedBytes.{bytes_size, entries_allowed, meaning}
use Rattle.passign.proofs.VerdictRule.{verdict_yes}
use Rattle.passign.proofs.FiveSets.{set_encodable}
use Rattle.passign.proofs.Entry.{sign_entry, check_entry}

module _ (draw : Drawers) (rule : ℕ) {p : Params} (e : Encodable (draw rule) p) (key exponents : List ℕ) (masks : List ℤ) (message out : List ℕ) where
  -- the public evaluations in 0..q-1, and what is checked
  abbrev vs : List ℕ
  vs = evaluation_residues p (key_of key) exponents

  abbrev public : List ℕ
  public = public_key_in p key exponents

  abbrev bytes : List ℕ
  bytes = sign_written_in draw rule p key exponents masks message out

  module _ {r : Signed} {i : ℕ} (a : SignedAs draw rule p key exponents masks message out r i) where
    below : are_evaluations p vs ≡ true
    below = holds_true (are_evaluations p vs) (evaluation_residues_below e.sound (key_of key) exponents)

    range : PublicKeyRange p exponents vs
    range =
        let k = allowed_of a in
        public_key_range e.fitting exponents vs k.exponents_size k.exponents_rise
        (length-evaluation_residues p (key_of key) exponents ∙ k.exponents_size) below

    exponents_back : exponents_of p public ≡ exponents
    unfolding public_key_in
    exponents_back = exponents_read_back p (set_byte key) exponents vs range

    evaluations_back : evaluations_of p public ≡ vs
    unfolding public_key_in
    evaluations_back = evaluations_read_back p (set_byte key) exponents vs range

    -- the check is not refused
    allowed : check_refusal_in rule p public bytes ≡ 0
    unfolding public_key_in
    allowed = (check_allowed rule p public bytes).1 (record {
      key_size = public_key-length p (set_byte key) exponents vs range;
      signature_size = bytes_size a e;
      rule_known = (allowed_of a).rule_known;
      exponents_rise = ap (are_exponents p) exponents_back ∙ (allowed_of a).exponents_rise;
      evaluations_below = ap (are_evaluations p) evaluations_back ∙ below;
      entries_increase = entries_allowed a e;
    })

    -- and the paper's rule holds of what is read
    valid : Rule (draw rule) p public message bytes
    valid =
        rw (exponents_back, evaluations_back, meaning a e)
        ((verdict-true (draw rule) p exponents message vs r.signature).0
        (polynomials.correctness (draw rule) e.sound exponents message (key_of key) (masks_of p masks) r (size_of_key a) (signing_of a)))

  -- in any set, with any way to draw for each rule: signed and checked under one rule
  pub correctness : {i : ℕ} → sign_answer_in draw rule p key exponents masks message out ≡ signing.Signed i
      → check_answer_in draw rule p (public_key_in p key exponents) message (sign_written_in draw rule p key exponents masks message out) ≡ verdict.Yes
  correctness accepted =
      let a = (accepted_signing draw rule p key exponents masks message out accepted).1 in
      (verdict_yes draw rule p public message bytes).1 (allowed a, valid a)

-- the entries, in the five sets
module _ (rule : ℕ) (key exponents : List ℕ) (masks : List ℤ) (message out : List ℕ) where
  -- where the public key is given: both encodings begin with the key's set
  pub sign_then_check : {i : ℕ} → sign_answer rule key exponents masks message out ≡ signing.Signed i
      → check_answer rule (public_key_in (set_in key) key exponents) message (sign_written rule key exponents masks message out) ≡ verdict.Yes
  unfolding public_key_in public_key signature_of signature_bytes
  sign_then_check accepted =
      let p = set_in key in
      let h = sign_entry rule key exponents masks message out accepted in
      let is = signed_bytes_lem (accepted_signing draw_challenge rule p key exponents masks message out h.answer).1 in
      let set = h.known.set.set in
      ap (check_answer rule (public_key_in p key exponents) message) (h.written ∙ is)
      ∙ check_entry rule (set_byte key) _ message _ h.known.short set
      ∙ ap (check_answer_in draw_challenge rule p (public_key_in p key exponents) message) (sym is)
      ∙ correctness draw_challenge rule (set_encodable rule (set_byte key) (ltb-true (set_byte key) 5 set)) key exponents masks message out h.answer

  -- where `public_key` wrote it
  pub entry_correctness : {i : ℕ} (room : List ℕ) → sign_answer rule key exponents masks message out ≡ signing.Signed i → public_key_refusal key exponents room ≡ 0
      → check_answer rule (public_key_written key exponents room) message (sign_written rule key exponents masks message out) ≡ verdict.Yes
  unfolding public_key_written
  entry_correctness room accepted allowed = rw allowed (sign_then_check accepted)
