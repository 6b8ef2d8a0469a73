-- A challenge in its encoded form: an entry for each coefficient that is not 0, the index in the low 15 bits, top bit 1 for -1.
-- Assumes nothing.
use Rattle.std.specs.Prelude.{Bool, cond, List, [], ◌∷◌, map, ℕ, zero, suc, ◌+◌, ◌%◌, ltb, eqb, ℤ, pos, negsuc}
use Rattle.encoding.specs.Bytes.{increasing}

-- an entry's index and coefficient
abbrev pub index_of : ℕ → ℕ
index_of e = e % 32768

abbrev pub coefficient_of : ℕ → ℤ
coefficient_of e = cond (ltb e 32768) (pos 1) (negsuc 0)

-- the coefficient at index i: that of the next entry where it is for i, else 0
abbrev pub coefficient_at : ℕ → List ℕ → ℤ
coefficient_at i [] = pos 0
coefficient_at i (e ∷ es) = cond (eqb (index_of e) i) (coefficient_of e) (pos 0)

-- the entry of a coefficient at index i that is not 0
abbrev pub entry_of : ℕ → ℤ → ℕ
entry_of i (pos a) = i
entry_of i (negsuc a) = i + 32768

-- the entries are allowed: challenge indices below N and increasing
abbrev pub are_entries : ℕ → List ℕ → Bool
are_entries n es = increasing n 0 (map index_of es)

-- the coefficients from index i on, n of them, with these entries
abbrev pub coefficients_from : ℕ → ℕ → List ℕ → List ℤ
coefficients_from i zero es = []
coefficients_from i (suc n) [] = pos 0 ∷ coefficients_from (suc i) n []
coefficients_from i (suc n) (e ∷ es) =
    cond (eqb (index_of e) i) (coefficient_of e ∷ coefficients_from (suc i) n es) (pos 0 ∷ coefficients_from (suc i) n (e ∷ es))

-- the challenge of N coefficients with these entries
abbrev pub challenge_of : ℕ → List ℕ → List ℤ
challenge_of n es = coefficients_from 0 n es

-- the entries of a challenge, its first coefficient having index i
abbrev pub entries_from : ℕ → List ℤ → List ℕ
entries_from i [] = []
entries_from i (pos zero ∷ c) = entries_from (suc i) c
entries_from i (pos (suc a) ∷ c) = i ∷ entries_from (suc i) c
entries_from i (negsuc a ∷ c) = (i + 32768) ∷ entries_from (suc i) c

-- the entries of a challenge
abbrev pub entries_of : List ℤ → List ℕ
entries_of c = entries_from 0 c
