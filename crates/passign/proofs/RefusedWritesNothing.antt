-- A refused call writes nothing: where an entry answers a refusal, or its C function returns one, each buffer that it was lent is as it was.
-- Assumes nothing.
use mathlib.Core.Path.{refl, sym}
use mathlib.Core.Bool.{Bool, true, false, cond}
use mathlib.Core.List.{List}
use mathlib.Core.Option.{Option, none, some}
use Prim.Native.Nat.{ℕ}
use native.Mathlib.Omega.{arith}
use lib.Dec.{eqb}
use lib.ListN.{length}
use Rattle.challenge.specs.Draw.{draw_challenge}
use Rattle.encoding.specs.Encoding.{key_of}
use Rattle.scheme.specs.Scheme.{Signed}
use Rattle.refusal.specs.Signing as signing
use Rattle.refusal.specs.Answer.{set_byte, set_in, unless_refused}
use Rattle.refusal.proofs.Answering.{kept, refused_number}
use Rattle.refusal.proofs.Apart.{refused_not_signed}
use Rattle.codec.specs.Codec.{read_secret_key_refusal, read_secret_key_written, write_secret_key_refusal, write_secret_key_written}
use Rattle.codec.specs.Codec.{read_public_key_refusal, read_exponents_written, read_evaluations_written, write_public_key_refusal, write_public_key_written}
use Rattle.codec.specs.Codec.{read_signature_refusal, read_entries_written, read_z_written, write_signature_refusal, write_signature_written}
use Rattle.signing.specs.Signer.{signed_by, signed_bytes}
use Rattle.signing.specs.Sign.{sign_refusal, signed_answer, sign_answer, sign_written}
use Rattle.values.specs.Draw.{draw_refusal, draw_written}
use Rattle.values.specs.Evaluate.{evaluate_refusal, evaluate_written}
use Rattle.values.specs.EvaluateAll.{evaluate_all_refusal, evaluate_all_written}
use Rattle.values.specs.Keys.{public_key_refusal, public_key_written}
use Rattle.passign.specs.RefusedWritesNothing.{LeftAsItWas, SigningLeftAsItWas, RefusedWritesNothing}

-- any entry whose buffer is written unless a number refuses
left : {A : Type 0} (number : ℕ) (written : List A) {before : List A} → LeftAsItWas number before (unless_refused number written before)
left number written = record {
  answered = λ e. sym (kept number written _ (refused_number number e));
  returned = λ h. sym (kept number written _ h);
}

-- signing, by the test of the refusal number and by what the masks give
signing_left : (t : Bool) (number s : ℕ) (o : Option Signed) (out : List ℕ)
    → SigningLeftAsItWas (cond t (signed_answer o) (signing.Refused number)) out (cond t (signed_bytes s o out) out)
signing_left true number s none out = record { answered = λ e. refl; returned = λ h. refl }
signing_left true number s (some r) out = record { answered = λ e. absurd (refused_not_signed (sym e)); returned = λ h. absurd (omega arith) }
signing_left false number s o out = record { answered = λ e. refl; returned = λ h. refl }

pub refused_writes_nothing : RefusedWritesNothing
unfolding evaluate_written evaluate_all_written draw_written public_key_written sign_answer sign_written read_secret_key_written write_secret_key_written
    read_exponents_written read_evaluations_written write_public_key_written read_entries_written read_z_written write_signature_written
refused_writes_nothing =
    record {
      evaluate = λ s f exponents out. left (evaluate_refusal s f exponents out) _;
      evaluate_all = λ s f out. left (evaluate_all_refusal s f out) _;
      draw = λ s pool out. left (draw_refusal s pool out) _;
      public_key = λ key exponents out. left (public_key_refusal key exponents out) _;
      sign = λ rule key exponents masks message out.
          let number = sign_refusal rule key exponents masks message out in
          signing_left (eqb number 0) number (set_byte key) (signed_by (draw_challenge rule) (set_in key) (key_of key) exponents masks message) out;
      read_secret_key = λ xs out. left (read_secret_key_refusal xs (length out)) _;
      write_secret_key = λ s f out. left (write_secret_key_refusal s f (length out)) _;
      read_public_key = λ xs exponents vs. let number = read_public_key_refusal xs (length exponents) (length vs) in (left number _, left number _);
      write_public_key = λ s exponents vs out. left (write_public_key_refusal s exponents vs (length out)) _;
      read_signature = λ xs entries z. let number = read_signature_refusal xs (length entries) (length z) in (left number _, left number _);
      write_signature = λ s entries z out. left (write_signature_refusal s entries z (length out)) _;
    }
