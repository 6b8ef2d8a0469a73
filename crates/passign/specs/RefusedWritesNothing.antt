-- Demand 1: a refused call changes no lent buffer. The buffer after a call, as the entry's contract gives it, is the one before it where the answer, as the
-- contract gives it, is a refusal; and where the number that the C function returns is one.
-- Assumes nothing.
use Rattle.std.specs.Prelude.{◌≡◌, List, ℕ, ◌<◌, ℤ, length}
use Rattle.refusal.specs.Answer.{Refused}
use Rattle.refusal.specs.Signing.{Signing}
use Rattle.refusal.specs.Signing as signing
use Rattle.refusal.specs.Answer.{answer_of, signing_number}
use Rattle.codec.specs.Codec.{read_secret_key_refusal, read_secret_key_written, write_secret_key_refusal, write_secret_key_written}
use Rattle.codec.specs.Codec.{read_public_key_refusal, read_exponents_written, read_evaluations_written, write_public_key_refusal, write_public_key_written}
use Rattle.codec.specs.Codec.{read_signature_refusal, read_entries_written, read_z_written, write_signature_refusal, write_signature_written}
use Rattle.signing.specs.Sign.{sign_answer, sign_written}
use Rattle.values.specs.Draw.{draw_refusal, draw_written}
use Rattle.values.specs.Evaluate.{evaluate_refusal, evaluate_written}
use Rattle.values.specs.EvaluateAll.{evaluate_all_refusal, evaluate_all_written}
use Rattle.values.specs.Keys.{public_key_refusal, public_key_written}

-- of an entry with this refusal number: it answers `answer_of number`, and to C it returns the number, 0 for none
pub record LeftAsItWas {A : Type 0} (number : ℕ) (before after : List A) : Type 0 where
  pub answered : {n : ℕ} → answer_of number ≡ Refused n → after ≡ before
  pub returned : (number ≡ 0 → ⊥) → after ≡ before

-- of signing: to C it returns 256 and more for an accepted one
pub record SigningLeftAsItWas (answer : Signing) (before after : List ℕ) : Type 0 where
  pub answered : {n : ℕ} → answer ≡ signing.Refused n → after ≡ before
  pub returned : signing_number answer < 256 → after ≡ before

-- each entry that is lent a buffer, for every input
pub record RefusedWritesNothing : Type 0 where
  pub evaluate : (s : ℕ) (f : List ℤ) (exponents : List ℕ) (out : List ℤ)
      → LeftAsItWas (evaluate_refusal s f exponents out) out (evaluate_written s f exponents out)
  pub evaluate_all : (s : ℕ) (f out : List ℤ) → LeftAsItWas (evaluate_all_refusal s f out) out (evaluate_all_written s f out)
  pub draw : (s : ℕ) (pool : List ℕ) (out : List ℤ) → LeftAsItWas (draw_refusal s pool out) out (draw_written s pool out)
  pub public_key : (key exponents out : List ℕ) → LeftAsItWas (public_key_refusal key exponents out) out (public_key_written key exponents out)
  pub sign : (rule : ℕ) (key exponents : List ℕ) (masks : List ℤ) (message out : List ℕ)
      → SigningLeftAsItWas (sign_answer rule key exponents masks message out) out (sign_written rule key exponents masks message out)
  pub read_secret_key : (xs : List ℕ) (out : List ℤ) → LeftAsItWas (read_secret_key_refusal xs (length out)) out (read_secret_key_written xs out)
  pub write_secret_key : (s : ℕ) (f : List ℤ) (out : List ℕ)
      → LeftAsItWas (write_secret_key_refusal s f (length out)) out (write_secret_key_written s f out)
  -- two buffers: of the exponents and of the evaluations
  pub read_public_key : (xs exponents vs : List ℕ) →
      let number = read_public_key_refusal xs (length exponents) (length vs) in
      LeftAsItWas number exponents (read_exponents_written xs exponents vs) × LeftAsItWas number vs (read_evaluations_written xs exponents vs)
  pub write_public_key : (s : ℕ) (exponents vs out : List ℕ)
      → LeftAsItWas (write_public_key_refusal s exponents vs (length out)) out (write_public_key_written s exponents vs out)
  -- two buffers: of the challenge entries and of z
  pub read_signature : (xs entries : List ℕ) (z : List ℤ) →
      let number = read_signature_refusal xs (length entries) (length z) in
      LeftAsItWas number entries (read_entries_written xs entries z) × LeftAsItWas number z (read_z_written xs entries z)
  pub write_signature : (s : ℕ) (entries : List ℕ) (z : List ℤ) (out : List ℕ)
      → LeftAsItWas (write_signature_refusal s entries z (length out)) out (write_signature_written s entries z out)
