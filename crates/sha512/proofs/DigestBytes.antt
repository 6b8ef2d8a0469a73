-- A digest is 64 bytes, each below 256.
-- Assumes nothing.
use Rattle.std.proofs.Common.{◌≡◌, ℕ, zero, suc, ◌<◌, List, [], ◌∷◌, ◌++◌, length, get_or, refl, arith}
use Rattle.sha512.specs.Bytes.{bytes8}
use Rattle.sha512.specs.Digest.{bytes_of, sha512}

pub digest_length : (m : List ℕ) → length (sha512 m) ≡ 64
unfolding sha512 bytes_of
digest_length m = refl

-- each number of the list is a byte
abbrev Bytes : List ℕ → Type 0
Bytes [] = Unit
Bytes (x ∷ s) = (x < 256) × Bytes s

bytes_append : (s t : List ℕ) → Bytes s → Bytes t → Bytes (s ++ t)
bytes_append [] t b d = d
bytes_append (x ∷ s) t b d = (b.0, bytes_append s t b.1 d)

bytes_eight : (x : ℕ) → Bytes (bytes8 x)
bytes_eight x = (omega arith, (omega arith, (omega arith, (omega arith, (omega arith, (omega arith, (omega arith, (omega arith, tt))))))))

bytes_of_lem : (n : ℕ) (h : List ℕ) → Bytes (bytes_of n h)
unfolding bytes_of
bytes_of_lem zero h = tt
bytes_of_lem (suc n) h = bytes_append (bytes_of n h) (bytes8 (get_or h n 0)) (bytes_of_lem n h) (bytes_eight (get_or h n 0))

byte_at : (s : List ℕ) → Bytes s → (i : ℕ) → get_or s i 0 < 256
byte_at [] b i = omega arith
byte_at (x ∷ s) b zero = b.0
byte_at (x ∷ s) b (suc i) = byte_at s b.1 i

-- past the end stands a 0
pub digest_byte : (m : List ℕ) (i : ℕ) → get_or (sha512 m) i 0 < 256
unfolding sha512
digest_byte m i = byte_at (sha512 m) (bytes_of_lem 8 _) i
