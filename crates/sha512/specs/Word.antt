-- FIPS 180-4, sections 2.2.2, 3.2 and 4.1.3: words of 64 bits, as numbers below 2 ^ 64, and the six functions of SHA-512.
-- `bit_and`, `bit_or` and `bit_xor` are what the code's `&`, `|` and `^` mean, on the binary digits of two numbers.
-- Assumes nothing.
use Rattle.std.specs.Prelude.{ℕ, ◌+◌, ◌-◌, ◌*◌, ◌/◌, ◌%◌, ◌^◌, bit_and, bit_or, bit_xor}

-- x + y, modulo 2 ^ 64
unfoldable pub add : ℕ → ℕ → ℕ
add x y = (x + y) % 2 ^ 64

-- ¬ x
abbrev pub complement : ℕ → ℕ
complement x = (2 ^ 64 - 1) - x

-- SHR^n (x): x shifted right by n
abbrev pub shr : ℕ → ℕ → ℕ
shr n x = x / 2 ^ n

-- ROTR^n (x) = (x >> n) ∨ (x << (64 - n)), for 0 < n < 64
abbrev pub rotr : ℕ → ℕ → ℕ
rotr n x = bit_or (x / 2 ^ n) ((x * 2 ^ (64 - n)) % 2 ^ 64)

-- (4.8) Ch(x, y, z) = (x ∧ y) ⊕ (¬ x ∧ z)
abbrev pub ch : ℕ → ℕ → ℕ → ℕ
ch x y z = bit_xor (bit_and x y) (bit_and (complement x) z)

-- (4.9) Maj(x, y, z) = (x ∧ y) ⊕ (x ∧ z) ⊕ (y ∧ z)
abbrev pub maj : ℕ → ℕ → ℕ → ℕ
maj x y z = bit_xor (bit_xor (bit_and x y) (bit_and x z)) (bit_and y z)

-- (4.10) Σ0(x) = ROTR^28 (x) ⊕ ROTR^34 (x) ⊕ ROTR^39 (x)
unfoldable pub Σ0 : ℕ → ℕ
Σ0 x = bit_xor (bit_xor (rotr 28 x) (rotr 34 x)) (rotr 39 x)

-- (4.11) Σ1(x) = ROTR^14 (x) ⊕ ROTR^18 (x) ⊕ ROTR^41 (x)
unfoldable pub Σ1 : ℕ → ℕ
Σ1 x = bit_xor (bit_xor (rotr 14 x) (rotr 18 x)) (rotr 41 x)

-- (4.12) σ0(x) = ROTR^1 (x) ⊕ ROTR^8 (x) ⊕ SHR^7 (x)
unfoldable pub σ0 : ℕ → ℕ
σ0 x = bit_xor (bit_xor (rotr 1 x) (rotr 8 x)) (shr 7 x)

-- (4.13) σ1(x) = ROTR^19 (x) ⊕ ROTR^61 (x) ⊕ SHR^6 (x)
unfoldable pub σ1 : ℕ → ℕ
σ1 x = bit_xor (bit_xor (rotr 19 x) (rotr 61 x)) (shr 6 x)
