-- The library's signing and check on what the session loads. The draws are cited, so SHA-512 is not computed again.
-- Assumes nothing.
use mathlib.Core.Path.{◌≡◌, refl}
use mathlib.Core.Bool.{true}
use mathlib.Core.List.{List, [], ◌∷◌, flatten}
use mathlib.Core.Option.{Option, some}
use Prim.Native.Nat.{ℕ}
use lib.IntN.{ℤ, pos, negsuc}
use lib.ListN.{drop}
use Rattle.parameters.specs.Sets.{sets, set_of}
use Rattle.polynomial.specs.Evaluation.{evaluation, evaluation_residue, evaluations, evaluation_residues}
use Rattle.challenge.specs.Pool.{low_byte_rule, is_rule}
use Rattle.challenge.specs.Draw.{draw_challenge}
use Rattle.encoding.specs.Bytes.{big_endian, numbers, encoded}
use Rattle.encoding.specs.Encoding.{is_key, key_of, public_key, signature_bytes, exponents_of, evaluations_of}
use Rattle.scheme.specs.Scheme.{attempt, is_drawn, verdict}
use Rattle.refusal.specs.Signing as signing
use Rattle.refusal.specs.Verdict as answer
use Rattle.signing.specs.Signer.{signature_of, signed_by}
use Rattle.signing.specs.Sign.{sign_refusal_in, sign_refusal, sign_answer, sign_written}
use Rattle.checking.specs.Check.{body_read, check_refusal_of, check_refusal_in, check_refusal, check_verdict, verdict_after, check_answer}
use Rattle.worked_session.specs.WorkedSession.{key, exponents, values, masks, message, room, signature}
use Rattle.worked_session.proofs.Draws.{first_drawn, second_drawn}

-- the first mask gives a z out of range, the second passes
by_second : signed_by (draw_challenge low_byte_rule) (set_of 0) (key_of key) exponents masks message
    ≡ some (record { passed_over = 1; commitment = negsuc 12 ∷ pos 3 ∷ []; signature = body_read (set_of 0) (drop 1 signature) })
unfolding signed_by attempt key exponents masks key_of set_of sets evaluations evaluation evaluation_residues evaluation_residue body_read signature numbers
by_second = rw (first_drawn, second_drawn)

pub signs : sign_answer low_byte_rule key exponents masks message room ≡ signing.Signed 1
unfolding sign_answer sign_refusal sign_refusal_in message key exponents masks room is_key set_of sets
signs = rw by_second

pub writes : sign_written low_byte_rule key exponents masks message room ≡ signature
unfolding signature sign_written sign_refusal sign_refusal_in message key exponents masks room is_key set_of sets body_read numbers
    signature_of signature_bytes encoded big_endian flatten
writes = rw by_second

-- the check of the signature under a rule, by what is drawn there
pub judged_by : (rule : ℕ) {o : Option (List ℤ)} → is_rule rule ≡ true → draw_challenge rule (set_of 0) (18 ∷ 3 ∷ []) message ≡ o
    → check_answer rule (public_key 0 exponents values) message signature ≡ verdict_after 0 (is_drawn o (pos 0 ∷ pos 1 ∷ negsuc 0 ∷ pos 0 ∷ pos 0 ∷ []))
unfolding signature check_answer check_refusal check_refusal_in check_refusal_of check_verdict exponents values public_key encoded big_endian flatten
    set_of sets exponents_of evaluations_of numbers body_read verdict evaluation_residues evaluation_residue message
judged_by rule known drawn = rw (known, drawn)

pub says_yes : check_answer low_byte_rule (public_key 0 exponents values) message signature ≡ answer.Yes
says_yes = judged_by low_byte_rule refl second_drawn
