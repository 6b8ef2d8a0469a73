-- Document 01, "Hash and challenge", and document 02 (#106): the rules of hashing, the commitment bytes under each, and the pool.
-- Assumes nothing.
use Rattle.std.specs.Prelude.{Bool, ◌||◌, cond, ℕ, zero, suc, ◌/◌, ◌%◌, eqb}
use mathlib.Core.List.{List, [], ◌∷◌, ◌++◌, map, flatten}
use Rattle.sha512.specs.Digest.{sha512}

-- the rules by number: 1 puts the low byte of each evaluation into the hash, 2 all three bytes
abbrev pub low_byte_rule : ℕ
low_byte_rule = 1

abbrev pub three_byte_rule : ℕ
three_byte_rule = 2

abbrev pub is_rule : ℕ → Bool
is_rule rule = eqb rule low_byte_rule || eqb rule three_byte_rule

-- how many bytes of each evaluation are hashed; a number that is no rule is as rule 1, and every entry refuses it
abbrev pub bytes_hashed : ℕ → ℕ
bytes_hashed rule = cond (eqb rule three_byte_rule) 3 1

-- the n low bytes of v, the low byte first
abbrev pub little_endian : ℕ → ℕ → List ℕ
little_endian zero v = []
little_endian (suc n) v = v % 256 ∷ little_endian n (v / 256)

-- the commitment bytes under a rule: of each evaluation, in 0..q-1, in order, the low byte or all three bytes, low byte first
unfoldable pub commitment_bytes : ℕ → List ℕ → List ℕ
commitment_bytes rule w = flatten (map (little_endian (bytes_hashed rule)) w)

-- n digests, each further one SHA-512 of the one before
unfoldable pub digests : ℕ → List ℕ → List (List ℕ)
digests zero d = []
digests (suc n) d = d ∷ digests n (sha512 d)

-- the eight digests of the commitment bytes and the message: the first is SHA-512 of the commitment bytes followed by SHA-512 of the message
unfoldable pub pool_digests : List ℕ → List ℕ → List (List ℕ)
pool_digests bytes message = digests 8 (sha512 (bytes ++ sha512 message))

-- the pool of a commitment and a message under a rule: its digests one after the other, 512 bytes
unfoldable pub pool : ℕ → List ℕ → List ℕ → List ℕ
pool rule w message = flatten (pool_digests (commitment_bytes rule w) message)
