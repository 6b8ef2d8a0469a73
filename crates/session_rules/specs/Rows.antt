-- The text of a row: fields parted by one space, ended by a line feed.
-- Assumes nothing.
use Rattle.std.specs.Prelude.{List, [], ◌∷◌, ◌++◌, ℕ, suc, eqb, length, drop, cond}
use Rattle.text.specs.Text.{decimal, hex, spaced, spaced_integers, line_feed}
use Rattle.session_rules.specs.Commands.{Payload, nothing, values, signed, judged}

abbrev pub payload_text : Payload → List ℕ
payload_text nothing = []
payload_text (values es) = spaced_integers es
payload_text (signed i bytes) = spaced (decimal i) ++ spaced (hex bytes)
payload_text (judged v) = spaced (decimal v)

-- ordinal, byte as two hex digits, number, and what an accepted command adds
unfoldable pub row_text : ℕ → ℕ → ℕ → Payload → List ℕ
row_text ordinal byte number x =
    decimal ordinal ++ (spaced (hex (byte ∷ [])) ++ (spaced (decimal number) ++ (payload_text x ++ (line_feed ∷ []))))

-- a row at the front of a buffer, whose bytes behind it are left
abbrev pub at_front : List ℕ → List ℕ → List ℕ
at_front row buffer = row ++ drop (length row) buffer

-- the size of the row at the front of a buffer: up to and with the first line feed, all where there is none
unfoldable pub row_size : List ℕ → ℕ
row_size [] = 0
row_size (x ∷ xs) = cond (eqb x line_feed) 1 (suc (row_size xs))
