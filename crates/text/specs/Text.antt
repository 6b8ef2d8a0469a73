-- Numbers and bytes as text, in ASCII: decimal digits, a minus sign before them, upper-case hex, fields after a space.
-- Assumes nothing.
use Rattle.std.specs.Prelude.{◌≡◌, List, [], ◌∷◌, ◌++◌, ℕ, zero, suc, ◌+◌, ◌/◌, ◌%◌, ltb, ℤ, pos, negsuc, length, cond}
use Rattle.std.proofs.lemmas.List.Edits.{sets}

abbrev pub space : ℕ
space = 32

abbrev pub minus_sign : ℕ
minus_sign = 45

abbrev pub line_feed : ℕ
line_feed = 10

-- n in decimal digits, at most `more` + 1 of them
unfoldable pub digits : ℕ → ℕ → List ℕ
digits zero n = (48 + n % 10) ∷ []
digits (suc more) n = cond (ltb n 10) ((48 + n % 10) ∷ []) (digits more (n / 10) ++ ((48 + n % 10) ∷ []))

-- n below 10 to the 20, in decimal: every count of 64 bits
abbrev pub decimal : ℕ → List ℕ
decimal n = digits 19 n

-- an integer: a minus sign and the digits where it is negative
unfoldable pub signed_decimal : ℤ → List ℕ
signed_decimal (pos n) = decimal n
signed_decimal (negsuc n) = minus_sign ∷ decimal (suc n)

-- an upper-case hex digit
abbrev pub hex_digit : ℕ → ℕ
hex_digit n = cond (ltb n 10) (48 + n) (55 + n)

-- bytes in hex, two digits each
unfoldable pub hex : List ℕ → List ℕ
hex [] = []
hex (x ∷ xs) = hex_digit (x / 16) ∷ hex_digit (x % 16) ∷ hex xs

-- a space and a field; each integer of a list so
abbrev pub spaced : List ℕ → List ℕ
spaced field = space ∷ field

unfoldable pub spaced_integers : List ℤ → List ℕ
spaced_integers [] = []
spaced_integers (e ∷ es) = spaced (signed_decimal e) ++ spaced_integers es

-- what an appender does to a buffer: `text` stands from `at` on, the rest was left, and `next` is the place behind it
pub record Appended (old : List ℕ) (at : ℕ) (text new : List ℕ) (next : ℕ) : Type 0 where
  pub bytes : new ≡ sets old at text
  pub end : next ≡ at + length text
