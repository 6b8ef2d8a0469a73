-- A signing of the library that is accepted, with one mask passed over, and the check says yes to the signature that it writes, under the public key
-- of the same key and points: so the theorems about accepted signings do not speak of nothing.
-- Assumes nothing.
use mathlib.Core.Path.{◌≡◌, refl}
use Rattle.parameters.specs.Sets.{sets, set_of}
use Rattle.polynomial.specs.Evaluation.{evaluation, evaluation_residue, evaluations, evaluation_residues}
use Rattle.challenge.specs.Pool.{low_byte_rule}
use Rattle.encoding.specs.Encoding.{key_of, public_key}
use Rattle.refusal.specs.Signing as signing
use Rattle.refusal.specs.Verdict as answer
use Rattle.signing.specs.Sign.{sign_answer, sign_written}
use Rattle.checking.specs.Check.{check_answer}
use Rattle.worked_session.specs.WorkedSession.{key, exponents, signed_values, values, masks, message, room, signature}
use Rattle.worked_session.proofs.Calls.{signs, writes, says_yes}

pub accepted_signing :
    (sign_answer low_byte_rule key exponents masks message room ≡ signing.Signed 1)
    × ((sign_written low_byte_rule key exponents masks message room ≡ signature)
    × ((evaluations (set_of 0) (key_of key) exponents ≡ signed_values)
    × ((evaluation_residues (set_of 0) (key_of key) exponents ≡ values)
    × (check_answer low_byte_rule (public_key 0 exponents values) message signature ≡ answer.Yes))))
unfolding key exponents signed_values values key_of set_of sets evaluations evaluation evaluation_residues evaluation_residue
accepted_signing = (signs, (writes, (refl, (refl, says_yes))))
