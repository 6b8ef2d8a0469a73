-- The entry `sign`: refusals 1 (message, empty key), 2, 1 (other lengths), 18, 4, 5, 6, then the first mask that passes signs, or 9.
-- Over any parameter set and any way to draw for each rule of hashing; the entry itself has the document's ways to draw, in the set of the key's first byte.
-- Assumes nothing.
use Rattle.std.specs.Prelude.{Bool, not, ◌&&◌, cond, List, [], ◌∷◌, ℕ, ◌*◌, ◌%◌, leb, eqb, ℤ, length}
use Rattle.std.proofs.Math.Option.{Option, none, some}
use Rattle.algebra.specs.Integer.{within}
use Rattle.parameters.specs.declared.Params.{Params}
use Rattle.parameters.specs.Limits.{max_masks}
use Rattle.challenge.specs.Draw.{draw_challenge}
use Rattle.challenge.specs.Pool.{is_rule}
use Rattle.encoding.specs.Encoding.{secret_key_size, signature_size, are_exponents, is_key, key_of}
use Rattle.scheme.specs.Scheme.{Drawers, Signed}
use Rattle.signing.specs.Signer.{signed_by, signed_bytes}
use Rattle.refusal.specs.Signing.{Signing}
use Rattle.refusal.specs.Signing as answer
use Rattle.refusal.specs.Answer.{set_byte, set_in, is_long, in_set_of, unless_refused, Stated, stated}
use Rattle.refusal.specs.Numbers.{wrong_length, wrong_rule, wrong_exponents, wrong_key, wrong_mask, none_passes}

-- ---- what refuses a signing before its masks are tried

-- so many numbers are masks one after the other, N numbers each, at most eight
abbrev pub are_whole : Params → ℕ → Bool
are_whole p count = eqb (count % p.n) 0 && leb count (max_masks * p.n)

abbrev pub are_masks : Params → List ℤ → Bool
are_masks p masks = are_whole p (length masks)

-- the lengths of the set: of the key, the exponents, all masks, and the room for the signature
abbrev pub sign_lengths : Params → ℕ → ℕ → ℕ → ℕ → Bool
sign_lengths p key exponents masks room = eqb key (secret_key_size p) && (eqb exponents p.t && (are_whole p masks && eqb room (signature_size p)))

-- the set's own tests: all masks are tested before any is tried
unfoldable pub sign_refusal_in : ℕ → Params → List ℕ → List ℕ → List ℤ → ℕ → ℕ
sign_refusal_in rule p key exponents masks room =
    cond (not (sign_lengths p (length key) (length exponents) (length masks) room)) wrong_length
    (cond (not (is_rule rule)) wrong_rule
    (cond (not (are_exponents p exponents)) wrong_exponents
    (cond (not (is_key key)) wrong_key
    (cond (not (within p.k masks)) wrong_mask 0))))

-- those of the entry
unfoldable pub sign_refusal : ℕ → List ℕ → List ℕ → List ℤ → List ℕ → List ℕ → ℕ
sign_refusal rule key exponents masks message out =
    cond (is_long message) wrong_length (in_set_of key (λ (p : Params). sign_refusal_in rule p key exponents masks (length out)))

-- ---- what is answered and written, by the refusal number and by what the masks give

-- the answer where nothing refuses; 9 where there is no mask or none passes
abbrev pub signed_answer : Option Signed → Signing
signed_answer none = answer.Refused none_passes
signed_answer (some r) = answer.Signed r.passed_over

abbrev pub signing_after : ℕ → Option Signed → Signing
signing_after refusal signed = cond (eqb refusal 0) (signed_answer signed) (answer.Refused refusal)

-- the same in document 01's number and values: the number of masks passed over comes with an accepted signing
abbrev pub signed_stated : Option Signed → Stated
signed_stated none = stated none_passes []
signed_stated (some r) = stated 0 (r.passed_over ∷ [])

abbrev pub stated_after : ℕ → Option Signed → Stated
stated_after refusal signed = cond (eqb refusal 0) (signed_stated signed) (stated refusal [])

abbrev pub written_after : ℕ → ℕ → Option Signed → List ℕ → List ℕ
written_after refusal s signed out = unless_refused refusal (signed_bytes s signed out) out

module _ (draw : Drawers) (rule : ℕ) (p : Params) (key exponents : List ℕ) (masks : List ℤ) (message out : List ℕ) where
  unfoldable pub sign_answer_in : Signing
  sign_answer_in = signing_after (sign_refusal_in rule p key exponents masks (length out)) (signed_by (draw rule) p (key_of key) exponents masks message)

  unfoldable pub sign_written_in : List ℕ
  sign_written_in =
      written_after (sign_refusal_in rule p key exponents masks (length out)) (set_byte key) (signed_by (draw rule) p (key_of key) exponents masks message) out

-- the entry: what it answers, what that states, and its buffer after it
module _ (rule : ℕ) (key exponents : List ℕ) (masks : List ℤ) (message out : List ℕ) where
  unfoldable pub sign_answer : Signing
  sign_answer = signing_after (sign_refusal rule key exponents masks message out) (signed_by (draw_challenge rule) (set_in key) (key_of key) exponents masks message)

  unfoldable pub sign_stated : Stated
  sign_stated = stated_after (sign_refusal rule key exponents masks message out) (signed_by (draw_challenge rule) (set_in key) (key_of key) exponents masks message)

  unfoldable pub sign_written : List ℕ
  sign_written =
      written_after (sign_refusal rule key exponents masks message out) (set_byte key)
      (signed_by (draw_challenge rule) (set_in key) (key_of key) exponents masks message) out
