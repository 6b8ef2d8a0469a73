-- FIPS 180-4, sections 5.1.2 and 5.2.2: a message padded to whole blocks of 1,024 bits, and those blocks. A message is a list of bytes, a block 128 of them.
-- Assumes nothing.
use Rattle.std.specs.Prelude.{ℕ, ◌-◌, ◌*◌, ◌%◌, List, ◌∷◌, ◌++◌, length, take, drop, replicate}
use Rattle.sha512.specs.Bytes.{bytes16}

-- how many zero bytes follow the byte 0x80 after a message of l bytes: the least z with l + 1 + z + 16 a multiple of 128
unfoldable pub zeros : ℕ → ℕ
zeros l = (239 - l % 128) % 128

-- what follows a message of l bytes: the bit 1, zero bits, and the message's length in bits as a number of 128 bits
unfoldable pub ending : ℕ → List ℕ
ending l = 0x80 ∷ (replicate (zeros l) 0 ++ bytes16 (8 * l))

-- 5.1.2: the padded message
unfoldable pub pad : List ℕ → List ℕ
pad m = m ++ ending (length m)

-- 5.2.2: block n of a padded message
unfoldable pub block_at : List ℕ → ℕ → List ℕ
block_at p n = take 128 (drop (128 * n) p)
