-- The entry `public_key`: refusals 1 (empty), 2, 1, 4, 5, then the public key of a secret key at the points.
-- Assumes nothing.
use Rattle.std.specs.Prelude.{Bool, not, ◌&&◌, cond, List, ℕ, eqb, length}
use Rattle.parameters.specs.declared.Params.{Params}
use Rattle.polynomial.specs.Evaluation.{evaluation_residues}
use Rattle.encoding.specs.Encoding.{secret_key_size, public_key_size, are_exponents, is_key, key_of, public_key}
use Rattle.refusal.specs.Answer.{set_byte, set_in, in_set_of, unless_refused}
use Rattle.refusal.specs.Numbers.{wrong_length, wrong_exponents, wrong_key}

-- the lengths: of the secret key, the exponents and the room for the public key
abbrev pub public_key_lengths : Params → ℕ → ℕ → ℕ → Bool
public_key_lengths p key exponents room = eqb key (secret_key_size p) && (eqb exponents p.t && eqb room (public_key_size p))

unfoldable pub public_key_refusal_in : Params → List ℕ → List ℕ → ℕ → ℕ
public_key_refusal_in p key exponents room =
    cond (not (public_key_lengths p (length key) (length exponents) room)) wrong_length
    (cond (not (are_exponents p exponents)) wrong_exponents
    (cond (not (is_key key)) wrong_key 0))

unfoldable pub public_key_refusal : List ℕ → List ℕ → List ℕ → ℕ
public_key_refusal key exponents out = in_set_of key (λ (p : Params). public_key_refusal_in p key exponents (length out))

-- the public key: the public evaluations of the secret key at the points, in 0..q-1
unfoldable pub public_key_in : Params → List ℕ → List ℕ → List ℕ
public_key_in p key exponents = public_key (set_byte key) exponents (evaluation_residues p (key_of key) exponents)

-- the buffer after it
unfoldable pub public_key_written : List ℕ → List ℕ → List ℕ → List ℕ
public_key_written key exponents out = unless_refused (public_key_refusal key exponents out) (public_key_in (set_in key) key exponents) out
