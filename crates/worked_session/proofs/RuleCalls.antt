-- The library's signing and check under each rule, on what the session of the rules loads. The draws are cited, so SHA-512 is not computed again.
-- Assumes nothing.
use mathlib.Core.Path.{◌≡◌, refl}
use mathlib.Core.Bool.{true}
use mathlib.Core.List.{List, [], ◌∷◌, ◌++◌, flatten}
use mathlib.Core.Option.{Option, some}
use Prim.Native.Nat.{ℕ}
use lib.IntN.{ℤ, pos, negsuc}
use lib.ListN.{drop}
use Rattle.parameters.specs.Sets.{sets, set_of}
use Rattle.polynomial.specs.Evaluation.{evaluation, evaluation_residue, evaluations, evaluation_residues}
use Rattle.challenge.specs.Pool.{low_byte_rule, three_byte_rule, is_rule}
use Rattle.challenge.specs.Draw.{draw_challenge}
use Rattle.encoding.specs.Bytes.{big_endian, numbers, encoded}
use Rattle.encoding.specs.Encoding.{is_key, key_of, public_key, signature_bytes, exponents_of, evaluations_of}
use Rattle.scheme.specs.Scheme.{attempt, is_drawn, verdict}
use Rattle.refusal.specs.Signing as signing
use Rattle.refusal.specs.Verdict as answer
use Rattle.signing.specs.Signer.{signature_of, signed_by}
use Rattle.signing.specs.Sign.{sign_refusal_in, sign_refusal, sign_answer, sign_written}
use Rattle.checking.specs.Check.{body_read, check_refusal_of, check_refusal_in, check_refusal, check_verdict, verdict_after, check_answer}
use Rattle.worked_session.specs.WorkedSession.{key, exponents, values, message, room, signature}
use Rattle.worked_session.specs.Rules.{under_two, under_one, signature_by_two}
use Rattle.worked_session.proofs.Calls as calls
use Rattle.worked_session.proofs.Draws.{second_drawn, second_by_two, third_by_two, third_by_one}

-- under rule 2 the first of both masks passes
by_two : signed_by (draw_challenge three_byte_rule) (set_of 0) (key_of key) exponents (under_two ++ under_one) message
    ≡ some (record { passed_over = 0; commitment = negsuc 0 ∷ pos 10 ∷ []; signature = body_read (set_of 0) (drop 1 signature_by_two) })
unfolding signed_by attempt key exponents under_two under_one key_of set_of sets evaluations evaluation evaluation_residues evaluation_residue body_read
    signature_by_two numbers
by_two = rw third_by_two

pub signs_by_two : sign_answer three_byte_rule key exponents (under_two ++ under_one) message room ≡ signing.Signed 0
unfolding sign_answer sign_refusal sign_refusal_in message key exponents under_two under_one room is_key set_of sets
signs_by_two = rw by_two

pub writes_by_two : sign_written three_byte_rule key exponents (under_two ++ under_one) message room ≡ signature_by_two
unfolding signature_by_two sign_written sign_refusal sign_refusal_in message key exponents under_two under_one room is_key set_of sets body_read numbers
    signature_of signature_bytes encoded big_endian flatten
writes_by_two = rw by_two

-- under rule 1 the mask that is left
by_one : signed_by (draw_challenge low_byte_rule) (set_of 0) (key_of key) exponents under_one message
    ≡ some (record { passed_over = 0; commitment = negsuc 12 ∷ pos 3 ∷ []; signature = body_read (set_of 0) (drop 1 signature) })
unfolding signed_by attempt key exponents under_one key_of set_of sets evaluations evaluation evaluation_residues evaluation_residue body_read signature numbers
by_one = rw second_drawn

pub signs_by_one : sign_answer low_byte_rule key exponents under_one message room ≡ signing.Signed 0
unfolding sign_answer sign_refusal sign_refusal_in message key exponents under_one room is_key set_of sets
signs_by_one = rw by_one

pub writes_by_one : sign_written low_byte_rule key exponents under_one message room ≡ signature
unfolding signature sign_written sign_refusal sign_refusal_in message key exponents under_one room is_key set_of sets body_read numbers
    signature_of signature_bytes encoded big_endian flatten
writes_by_one = rw by_one

-- each signature is checked under the rule that signed and under the other; `Calls` has the yes of the second
judged_by : (rule : ℕ) {o : Option (List ℤ)} → is_rule rule ≡ true → draw_challenge rule (set_of 0) (30 ∷ 10 ∷ []) message ≡ o
    → check_answer rule (public_key 0 exponents values) message signature_by_two
    ≡ verdict_after 0 (is_drawn o (pos 0 ∷ pos 1 ∷ pos 0 ∷ pos 0 ∷ pos 1 ∷ []))
unfolding signature_by_two check_answer check_refusal check_refusal_in check_refusal_of check_verdict exponents values public_key encoded big_endian flatten
    set_of sets exponents_of evaluations_of numbers body_read verdict evaluation_residues evaluation_residue message
judged_by rule known drawn = rw (known, drawn)

pub yes_by_two : check_answer three_byte_rule (public_key 0 exponents values) message signature_by_two ≡ answer.Yes
yes_by_two = judged_by three_byte_rule refl third_by_two

pub no_by_one : check_answer low_byte_rule (public_key 0 exponents values) message signature_by_two ≡ answer.No
no_by_one = judged_by low_byte_rule refl third_by_one

pub no_by_two : check_answer three_byte_rule (public_key 0 exponents values) message signature ≡ answer.No
no_by_two = calls.judged_by three_byte_rule refl second_by_two
