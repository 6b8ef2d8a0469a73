-- Document 01, "The parameter sets": the table.
-- Assumes nothing.
use Rattle.std.specs.Prelude.{Bool, List, [], ◌∷◌, ℕ, ltb, get_or}
use Rattle.parameters.specs.declared.Params.{Params}

-- a row of the table: N, q, g, k, b, t
abbrev pub row : ℕ → ℕ → ℕ → ℕ → ℕ → ℕ → Params
row n q g k b t = record { n = n; q = q; g = g; k = k; b = b; t = t }

unfoldable pub sets : List Params
sets =
    row 5 31 2 6 2 2
    ∷ row 433 775937 268673 4095 19 200
    ∷ row 577 743177 296108 16383 24 280
    ∷ row 769 1047379 421722 32767 29 386
    ∷ row 1153 968521 56574 32767 36 600
    ∷ []

-- set 0 to 4
abbrev pub is_set : ℕ → Bool
is_set s = ltb s 5

-- the numbers of set s; where s is no set they are all 0
unfoldable pub set_of : ℕ → Params
set_of s = get_or sets s (row 0 0 0 0 0 0)
