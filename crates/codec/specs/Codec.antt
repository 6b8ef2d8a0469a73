-- The readers and writers of the three encodings: refusals 1 (empty, for a reader), 2, 1, then the encoding's own.
-- Assumes nothing.
use Rattle.std.specs.Prelude.{not, ◌&&◌, cond, List, ℕ, eqb, ℤ, length}
use Rattle.parameters.specs.declared.Params.{Params}
use Rattle.polynomial.specs.Polynomial.{ternary}
use Rattle.encoding.specs.Challenge.{are_entries}
use Rattle.encoding.specs.Encoding.{secret_key_size, is_key, key_of, secret_key}
use Rattle.encoding.specs.Encoding.{public_key_size, are_exponents, are_evaluations, exponents_of, evaluations_of, public_key}
use Rattle.encoding.specs.Encoding.{signature_size, entries_read, z_read, signature_bytes}
use Rattle.refusal.specs.Numbers.{wrong_length, wrong_exponents, wrong_key, wrong_evaluation, wrong_entries}
use Rattle.refusal.specs.Answer.{in_set, in_set_of, set_in, unless_refused}

-- ---- secret keys

unfoldable pub read_secret_key_in : List ℕ → ℕ → Params → ℕ
read_secret_key_in xs room p =
    cond (not (eqb (length xs) (secret_key_size p) && eqb room p.n)) wrong_length
    (cond (not (is_key xs)) wrong_key 0)

unfoldable pub read_secret_key_refusal : List ℕ → ℕ → ℕ
read_secret_key_refusal xs room = in_set_of xs (read_secret_key_in xs room)

unfoldable pub read_secret_key_written : List ℕ → List ℤ → List ℤ
read_secret_key_written xs out = unless_refused (read_secret_key_refusal xs (length out)) (key_of xs) out

unfoldable pub write_secret_key_refusal : ℕ → List ℤ → ℕ → ℕ
write_secret_key_refusal s f room =
    in_set s
    (λ (p : Params).
    cond (not (eqb (length f) p.n && eqb room (secret_key_size p))) wrong_length
    (cond (not (ternary f)) wrong_key 0))

unfoldable pub write_secret_key_written : ℕ → List ℤ → List ℕ → List ℕ
write_secret_key_written s f out = unless_refused (write_secret_key_refusal s f (length out)) (secret_key s f) out

-- ---- public keys

-- the refusal of what a public key holds
unfoldable pub public_key_lists_refusal : Params → List ℕ → List ℕ → ℕ
public_key_lists_refusal p exponents evaluations =
    cond (not (are_exponents p exponents)) wrong_exponents
    (cond (not (are_evaluations p evaluations)) wrong_evaluation 0)

unfoldable pub read_public_key_in : List ℕ → ℕ → ℕ → Params → ℕ
read_public_key_in xs exponents-room evaluations-room p =
    cond (not (eqb (length xs) (public_key_size p) && (eqb exponents-room p.t && eqb evaluations-room p.t))) wrong_length
    (public_key_lists_refusal p (exponents_of p xs) (evaluations_of p xs))

unfoldable pub read_public_key_refusal : List ℕ → ℕ → ℕ → ℕ
read_public_key_refusal xs exponents-room evaluations-room = in_set_of xs (read_public_key_in xs exponents-room evaluations-room)

-- the buffers of the exponents and of the evaluations
unfoldable pub read_exponents_written : List ℕ → List ℕ → List ℕ → List ℕ
read_exponents_written xs exponents vs =
    unless_refused (read_public_key_refusal xs (length exponents) (length vs)) (exponents_of (set_in xs) xs) exponents

unfoldable pub read_evaluations_written : List ℕ → List ℕ → List ℕ → List ℕ
read_evaluations_written xs exponents vs =
    unless_refused (read_public_key_refusal xs (length exponents) (length vs)) (evaluations_of (set_in xs) xs) vs

unfoldable pub write_public_key_refusal : ℕ → List ℕ → List ℕ → ℕ → ℕ
write_public_key_refusal s exponents vs room =
    in_set s
    (λ (p : Params).
    cond (not (eqb (length exponents) p.t && (eqb (length vs) p.t && eqb room (public_key_size p)))) wrong_length
    (public_key_lists_refusal p exponents vs))

unfoldable pub write_public_key_written : ℕ → List ℕ → List ℕ → List ℕ → List ℕ
write_public_key_written s exponents vs out = unless_refused (write_public_key_refusal s exponents vs (length out)) (public_key s exponents vs) out

-- ---- signatures

-- the refusal of what a signature holds
unfoldable pub entries_refusal : ℕ → List ℕ → ℕ
entries_refusal n entries = cond (not (are_entries n entries)) wrong_entries 0

unfoldable pub read_signature_in : List ℕ → ℕ → ℕ → Params → ℕ
read_signature_in xs entries-room z-room p =
    cond (not (eqb (length xs) (signature_size p) && (eqb entries-room p.b && eqb z-room p.n))) wrong_length
    (entries_refusal p.n (entries_read p xs))

unfoldable pub read_signature_refusal : List ℕ → ℕ → ℕ → ℕ
read_signature_refusal xs entries-room z-room = in_set_of xs (read_signature_in xs entries-room z-room)

-- the buffers of the challenge entries and of z
unfoldable pub read_entries_written : List ℕ → List ℕ → List ℤ → List ℕ
read_entries_written xs entries z =
    unless_refused (read_signature_refusal xs (length entries) (length z)) (entries_read (set_in xs) xs) entries

unfoldable pub read_z_written : List ℕ → List ℕ → List ℤ → List ℤ
read_z_written xs entries z =
    unless_refused (read_signature_refusal xs (length entries) (length z)) (z_read (set_in xs) xs) z

unfoldable pub write_signature_refusal : ℕ → List ℕ → List ℤ → ℕ → ℕ
write_signature_refusal s entries z room =
    in_set s
    (λ (p : Params).
    cond (not (eqb (length entries) p.b && (eqb (length z) p.n && eqb room (signature_size p)))) wrong_length
    (entries_refusal p.n entries))

unfoldable pub write_signature_written : ℕ → List ℕ → List ℤ → List ℕ → List ℕ
write_signature_written s entries z out = unless_refused (write_signature_refusal s entries z (length out)) (signature_bytes s entries z) out
