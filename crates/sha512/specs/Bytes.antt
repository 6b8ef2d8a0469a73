-- FIPS 180-4, section 3.1: numbers as bytes, high byte first.
-- Assumes nothing.
use Rattle.std.specs.Prelude.{ℕ, ◌+◌, ◌*◌, ◌/◌, ◌%◌, ◌^◌, List, [], ◌∷◌, ◌++◌, slice_index}

-- the number whose four bytes stand in b from i on
abbrev pub half_at : List ℕ → ℕ → ℕ
half_at b i = slice_index b i * 2 ^ 24 + slice_index b (i + 1) * 2 ^ 16 + slice_index b (i + 2) * 2 ^ 8 + slice_index b (i + 3)

-- the word whose eight bytes stand in b from i on: 2 ^ 32 times the number of the first four, and that of the others
abbrev pub word_at : List ℕ → ℕ → ℕ
word_at b i = 2 ^ 32 * half_at b i + half_at b (i + 4)

-- a word as eight bytes
abbrev pub bytes8 : ℕ → List ℕ
bytes8 x =
    x / 2 ^ 56 % 256 ∷ x / 2 ^ 48 % 256 ∷ x / 2 ^ 40 % 256 ∷ x / 2 ^ 32 % 256
    ∷ x / 2 ^ 24 % 256 ∷ x / 2 ^ 16 % 256 ∷ x / 2 ^ 8 % 256 ∷ x % 256 ∷ []

-- a number below 2 ^ 128 as sixteen bytes
unfoldable pub bytes16 : ℕ → List ℕ
bytes16 x = bytes8 (x / 2 ^ 64) ++ bytes8 (x % 2 ^ 64)
