-- Document 01, "Encodings": one meaning has one encoding. What is written is read back, and what is read is written back to the same bytes.
-- Assumes nothing.
use mathlib.Core.Path.{◌≡◌, refl, sym, ap, ap₂, ◌∙◌}
use mathlib.Core.Bool.{Bool}
use mathlib.Core.List.{List, [], ◌∷◌, ◌++◌, map}
use Prim.Native.Nat.{ℕ, zero, suc, ◌+◌, ◌*◌, ◌≤◌, ◌<◌}
use native.Mathlib.Nat.{not-suc-le-zero}
use native.Mathlib.Omega.{arith}
use lib.Dec.{T, ltb, leb, eqb, leb→le}
use lib.IntN.{ℤ, pos, negsuc, nat_abs}
use lib.ListN.{length, get_or, drop, length-append, length-drop, length-map}
use lib.Signed.{mag}
use borrow.Author.Tests.{ne_eqb, eqb-true}
use Rattle.algebra.specs.Integer.{within}
use Rattle.algebra.proofs.All.{all-drop, all-map}
use Rattle.algebra.proofs.Test.{by_test}
use Rattle.parameters.specs.declared.Params.{Params}
use Rattle.algebra.specs.All.{are_below}
use Rattle.encoding.specs.Bytes.{numbers, encoded, bits16, signed16}
use Rattle.encoding.specs.Challenge.{are_entries, challenge_of, entries_of}
use Rattle.encoding.specs.Encoding.{secret_key_size, is_key_byte, key_coefficient, key_byte, secret_key, is_key, key_of}
use Rattle.encoding.specs.Encoding.{public_key_size, public_key, PublicKeyRange, exponents_of, evaluations_of}
use Rattle.encoding.specs.Encoding.{signature_size, signature_bytes, SignatureRange, entries_read, z_read}
use Rattle.encoding.proofs.Writing.{length-encoded}
use Rattle.encoding.specs.Signed.{signed_of_bits}
use Rattle.encoding.proofs.Inverse as inverse
use Rattle.encoding.proofs.EntriesInverse as entries-inverse

-- ---- a secret key

coefficient_back : (z : ℤ) → T (leb (nat_abs z) 1) → key_coefficient (key_byte z) ≡ z
coefficient_back (pos n) t = let h : n ≤ 1 = leb→le n 1 t in rw (ne_eqb n 255 (λ e. omega arith))
coefficient_back (negsuc n) t = let h : suc n ≤ 1 = leb→le (suc n) 1 t in ap negsuc (omega arith)

byte_of_key : (z : ℤ) → T (leb (nat_abs z) 1) → T (is_key_byte (key_byte z))
byte_of_key (pos zero) t = tt
byte_of_key (pos (suc zero)) t = tt
byte_of_key (pos (suc (suc n))) t = let h : suc (suc n) ≤ 1 = leb→le (suc (suc n)) 1 t in absurd (omega arith)
byte_of_key (negsuc n) t = tt

byte_back : (x : ℕ) → key_byte (key_coefficient x) ≡ x
byte_back x = by_test (eqb x 255) (λ e. rw e (sym (eqb-true x 255 e))) (λ e. rw e)

bytes_back : (xs : List ℕ) → map key_byte (map key_coefficient xs) ≡ xs
bytes_back [] = refl
bytes_back (x ∷ xs) = ap₂ (λ (y : ℕ) (l : List ℕ). y ∷ l) (byte_back x) (bytes_back xs)

-- a key that is written has bytes that are allowed, and is read back
pub key_accepted : (s : ℕ) (f : List ℤ) → T (within 1 f) → T (is_key (secret_key s f))
unfolding is_key secret_key
key_accepted s f t = all-map key_byte (λ (z : ℤ). leb (nat_abs z) 1) is_key_byte byte_of_key f t

pub key_read_back : (s : ℕ) (f : List ℤ) → T (within 1 f) → key_of (secret_key s f) ≡ f
unfolding key_of secret_key
key_read_back s f t = inverse.map_back key_byte key_coefficient (λ (z : ℤ). leb (nat_abs z) 1) coefficient_back f t

-- bytes that are read as a key are written back
pub key_written_back : (xs : List ℕ) → 0 < length xs → secret_key (get_or xs 0 0) (key_of xs) ≡ xs
unfolding key_of secret_key
key_written_back [] h = absurd (not-suc-le-zero h)
key_written_back (x ∷ xs) h = ap (λ (l : List ℕ). x ∷ l) (bytes_back xs)

-- ---- a public key

-- the length of a set byte and two lists of numbers
length_both : (u w : ℕ) (s : ℕ) (a b : List ℕ) → length (s ∷ (encoded u a ++ encoded w b)) ≡ 1 + u * length a + w * length b
length_both u w s a b = omega (arith, length-append (encoded u a) (encoded w b), length-encoded u a, length-encoded w b)

module _ (p : Params) (s : ℕ) (exponents evaluations : List ℕ) (r : PublicKeyRange p exponents evaluations) where
  -- its exponents and its evaluations are read back
  pub exponents_read_back : exponents_of p (public_key s exponents evaluations) ≡ exponents
  unfolding exponents_of public_key
  exponents_read_back = inverse.read_first 2 p.t 3 p.t exponents (encoded 3 evaluations) r.exponents_length r.exponents_below

  pub evaluations_read_back : evaluations_of p (public_key s exponents evaluations) ≡ evaluations
  unfolding evaluations_of public_key
  evaluations_read_back =
      inverse.read_second 2 p.t 3 p.t exponents evaluations r.exponents_length r.evaluations_length r.evaluations_below

  pub public_key-length : length (public_key s exponents evaluations) ≡ public_key_size p
  unfolding public_key
  public_key-length =
      length_both 2 3 s exponents evaluations ∙ omega (arith, r.exponents_length, r.evaluations_length)

-- bytes that are read as a public key are written back
pub public_key_written_back : (p : Params) (xs : List ℕ) → length xs ≡ public_key_size p → T (are_below 256 xs)
    → public_key (get_or xs 0 0) (exponents_of p xs) (evaluations_of p xs) ≡ xs
unfolding public_key exponents_of evaluations_of
public_key_written_back p [] l t = absurd (omega arith)
public_key_written_back p (x ∷ xs) l t =
    ap (λ (y : List ℕ). x ∷ y) (inverse.written_both 2 p.t 3 p.t xs (omega arith) (all-drop (λ (y : ℕ). ltb y 256) 1 (x ∷ xs) t))

-- ---- a signature

module _ (p : Params) (s : ℕ) (entries : List ℕ) (z : List ℤ) (r : SignatureRange p entries z) where
  -- its challenge entries and its point are read back
  pub entries_read_back : entries_read p (signature_bytes s entries z) ≡ entries
  unfolding entries_read signature_bytes
  entries_read_back = inverse.read_first 2 p.b 2 p.n entries (encoded 2 (map bits16 z)) r.entries_length r.entries_below

  pub z_read_back : z_read p (signature_bytes s entries z) ≡ z
  unfolding z_read signature_bytes
  z_read_back =
      let small : ℤ → Bool = λ (y : ℤ). ltb (mag y) 32768 in
      let b : T (are_below 65536 (map bits16 z)) = all-map bits16 small (λ (v : ℕ). ltb v 65536) inverse.bits_below z r.z_signed in
      ap (map signed16) (inverse.read_second 2 p.b 2 p.n entries (map bits16 z) r.entries_length (length-map z bits16 ∙ r.z_length) b)
      ∙ inverse.map_back bits16 signed16 small signed_of_bits z r.z_signed

  pub signature_length : length (signature_bytes s entries z) ≡ signature_size p
  unfolding signature_bytes
  signature_length =
      length_both 2 2 s entries (map bits16 z) ∙ omega (arith, length-map z bits16, r.entries_length, r.z_length)

-- bytes that are read as a signature are written back
pub signature_written_back : (p : Params) (xs : List ℕ) → length xs ≡ signature_size p → T (are_below 256 xs)
    → signature_bytes (get_or xs 0 0) (entries_read p xs) (z_read p xs) ≡ xs
unfolding signature_bytes entries_read z_read
signature_written_back p [] l t = absurd (omega arith)
signature_written_back p (x ∷ xs) l t =
    let bytes : T (are_below 256 xs) = all-drop (λ (y : ℕ). ltb y 256) 1 (x ∷ xs) t in
    let end : List ℕ = drop (2 * p.b) xs in
    let below : T (are_below 65536 (numbers 2 p.n end)) =
    inverse.numbers_below 2 p.n end (omega (arith, length-drop (2 * p.b) xs)) (all-drop (λ (y : ℕ). ltb y 256) (2 * p.b) xs bytes) in
    ap (λ (y : List ℕ). x ∷ (encoded 2 (numbers 2 p.b xs) ++ encoded 2 y))
    (inverse.map_back signed16 bits16 (λ (v : ℕ). ltb v 65536) inverse.bits_of_signed (numbers 2 p.n end) below)
    ∙ ap (λ (y : List ℕ). x ∷ y) (inverse.written_both 2 p.b 2 p.n xs (omega arith) bytes)

-- ---- a challenge

-- the entries of a challenge are accepted, fit 16 bits, and give the challenge back
pub entries_accepted : (c : List ℤ) → length c ≤ 32768 → T (are_entries (length c) (entries_of c))
entries_accepted c h = entries-inverse.entries_increasing (length c) h 0 c (omega arith)

pub entries_below : (c : List ℤ) → length c ≤ 32768 → T (are_below 65536 (entries_of c))
entries_below c h = entries-inverse.entries_below 0 c (omega arith)

pub challenge_read_back : (c : List ℤ) → length c ≤ 32768 → T (within 1 c) → challenge_of (length c) (entries_of c) ≡ c
challenge_read_back c h t = entries-inverse.coefficients_of_entries (length c) h 0 c (omega arith) t

-- entries that are accepted are those of their challenge
pub entries_written_back : (n : ℕ) (es : List ℕ) → T (are_entries n es) → T (are_below 65536 es) → entries_of (challenge_of n es) ≡ es
entries_written_back n es t b = entries-inverse.entries_of_coefficients n 0 n es (omega arith) t b

-- ---- one meaning, one encoding

-- bytes of a signature's size whose entries are allowed are what is written for their meaning: their challenge and their point
pub signature_of_meaning : (p : Params) (xs : List ℕ) → length xs ≡ signature_size p → T (are_below 256 xs) → T (are_entries p.n (entries_read p xs))
    → signature_bytes (get_or xs 0 0) (entries_of (challenge_of p.n (entries_read p xs))) (z_read p xs) ≡ xs
unfolding entries_read
signature_of_meaning p xs l t allowed =
    let bytes = all-drop (λ (y : ℕ). ltb y 256) 1 xs t in
    let below : T (are_below 65536 (entries_read p xs)) = inverse.numbers_below 2 p.b (drop 1 xs) (omega (arith, length-drop 1 xs)) bytes in
    ap (λ (es : List ℕ). signature_bytes (get_or xs 0 0) es (z_read p xs)) (entries_written_back p.n (entries_read p xs) allowed below)
    ∙ signature_written_back p xs l t

-- two byte strings that are accepted, with the same first byte and the same meaning, are the same bytes; asked of them is only what is used of their being
-- accepted
module _ (p : Params) (xs ys : List ℕ) (first : get_or xs 0 0 ≡ get_or ys 0 0) where
  -- signatures that have the same challenge and the same point
  pub one_signature : length xs ≡ signature_size p → T (are_below 256 xs) → T (are_entries p.n (entries_read p xs))
      → length ys ≡ signature_size p → T (are_below 256 ys) → T (are_entries p.n (entries_read p ys))
      → challenge_of p.n (entries_read p xs) ≡ challenge_of p.n (entries_read p ys) → z_read p xs ≡ z_read p ys → xs ≡ ys
  one_signature l t allowed l' t' allowed' challenge same_z =
      sym (signature_of_meaning p xs l t allowed)
      ∙ ap (λ (s : ℕ). signature_bytes s (entries_of (challenge_of p.n (entries_read p xs))) (z_read p xs)) first
      ∙ ap₂ (λ (c z : List ℤ). signature_bytes (get_or ys 0 0) (entries_of c) z) challenge same_z ∙ signature_of_meaning p ys l' t' allowed'

  -- public keys that have the same exponents and the same evaluations
  pub one_public_key : length xs ≡ public_key_size p → T (are_below 256 xs) → length ys ≡ public_key_size p → T (are_below 256 ys)
      → exponents_of p xs ≡ exponents_of p ys → evaluations_of p xs ≡ evaluations_of p ys → xs ≡ ys
  one_public_key l t l' t' exponents evaluations =
      sym (public_key_written_back p xs l t)
      ∙ ap (λ (s : ℕ). public_key s (exponents_of p xs) (evaluations_of p xs)) first
      ∙ ap₂ (λ (js vs : List ℕ). public_key (get_or ys 0 0) js vs) exponents evaluations ∙ public_key_written_back p ys l' t'

  -- secret keys that are the same polynomial
  pub one_secret_key : length xs ≡ secret_key_size p → length ys ≡ secret_key_size p → key_of xs ≡ key_of ys → xs ≡ ys
  one_secret_key l l' key =
      sym (key_written_back xs (omega arith)) ∙ ap₂ (λ (s : ℕ) (f : List ℤ). secret_key s f) first key ∙ key_written_back ys (omega arith)
