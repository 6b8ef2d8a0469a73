-- Document 01, "Encodings": the three encodings, written and read. An encoding's first byte is its set, s below.
-- Assumes nothing.
use Rattle.std.specs.Prelude.{◌≡◌, Bool, ◌||◌, cond, List, ◌∷◌, ◌++◌, map, ℕ, ◌+◌, ◌*◌, T, eqb, ℤ, pos, negsuc, length, drop}
use Rattle.algebra.specs.All.{all, are_below}
use Rattle.parameters.specs.declared.Params.{Params}
use Rattle.encoding.specs.Bytes.{numbers, encoded, bits16, signed16, are_signed16, increasing}

-- ---- a secret key: the set byte, then N bytes, hex 00, 01 or FF for -1

abbrev pub secret_key_size : Params → ℕ
secret_key_size p = 1 + p.n

abbrev pub is_key_byte : ℕ → Bool
is_key_byte x = eqb x 0 || (eqb x 1 || eqb x 255)

abbrev pub key_coefficient : ℕ → ℤ
key_coefficient x = cond (eqb x 255) (negsuc 0) (pos x)

abbrev pub key_byte : ℤ → ℕ
key_byte (pos n) = n
key_byte (negsuc n) = 255

unfoldable pub secret_key : ℕ → List ℤ → List ℕ
secret_key s f = s ∷ map key_byte f

-- what is read from the body, the bytes behind the set byte: they are allowed, and the key
abbrev pub are_key_bytes : List ℕ → Bool
are_key_bytes body = all is_key_byte body

abbrev pub key_in : List ℕ → List ℤ
key_in body = map key_coefficient body

-- the same of the whole encoding
unfoldable pub is_key : List ℕ → Bool
is_key xs = are_key_bytes (drop 1 xs)

unfoldable pub key_of : List ℕ → List ℤ
key_of xs = key_in (drop 1 xs)

-- ---- a public key: the set byte, t exponents of two bytes, t evaluations of three bytes

abbrev pub public_key_size : Params → ℕ
public_key_size p = 1 + 2 * p.t + 3 * p.t

unfoldable pub public_key : ℕ → List ℕ → List ℕ → List ℕ
public_key s exponents evaluations = s ∷ (encoded 2 exponents ++ encoded 3 evaluations)

-- exponents strictly increasing, each in 1..N-1
abbrev pub are_exponents : Params → List ℕ → Bool
are_exponents p js = increasing p.n 1 js

-- evaluations below q
abbrev pub are_evaluations : Params → List ℕ → Bool
are_evaluations p vs = are_below p.q vs

-- lists that a public key has room for
pub record PublicKeyRange (p : Params) (exponents evaluations : List ℕ) : Type 0 where
  pub exponents_length : length exponents ≡ p.t
  pub exponents_below : T (are_below 65536 exponents)
  pub evaluations_length : length evaluations ≡ p.t
  pub evaluations_below : T (are_below 16777216 evaluations)

-- what is read from the body: the exponents and the evaluations
abbrev pub exponents_in : Params → List ℕ → List ℕ
exponents_in p body = numbers 2 p.t body

abbrev pub evaluations_in : Params → List ℕ → List ℕ
evaluations_in p body = numbers 3 p.t (drop (2 * p.t) body)

-- the same of the whole encoding
unfoldable pub exponents_of : Params → List ℕ → List ℕ
exponents_of p xs = exponents_in p (drop 1 xs)

unfoldable pub evaluations_of : Params → List ℕ → List ℕ
evaluations_of p xs = evaluations_in p (drop 1 xs)

-- ---- a signature: the set byte, b challenge entries of two bytes, N coefficients of two bytes

abbrev pub signature_size : Params → ℕ
signature_size p = 1 + 2 * p.b + 2 * p.n

unfoldable pub signature_bytes : ℕ → List ℕ → List ℤ → List ℕ
signature_bytes s entries z = s ∷ (encoded 2 entries ++ encoded 2 (map bits16 z))

-- lists that a signature has room for
pub record SignatureRange (p : Params) (entries : List ℕ) (z : List ℤ) : Type 0 where
  pub entries_length : length entries ≡ p.b
  pub entries_below : T (are_below 65536 entries)
  pub z_length : length z ≡ p.n
  pub z_signed : T (are_signed16 z)

-- what is read from the body: the challenge entries and z
abbrev pub entries_in : Params → List ℕ → List ℕ
entries_in p body = numbers 2 p.b body

abbrev pub z_in : Params → List ℕ → List ℤ
z_in p body = map signed16 (numbers 2 p.n (drop (2 * p.b) body))

-- the same of the whole encoding
unfoldable pub entries_read : Params → List ℕ → List ℕ
entries_read p xs = entries_in p (drop 1 xs)

unfoldable pub z_read : Params → List ℕ → List ℤ
z_read p xs = z_in p (drop 1 xs)
