-- A challenge has as many entries as coefficients that are not 0.
-- Assumes nothing.
use mathlib.Core.Path.{◌≡◌, refl, ap}
use mathlib.Core.List.{List, [], ◌∷◌}
use Prim.Native.Nat.{ℕ, zero, suc}
use lib.IntN.{ℤ, pos, negsuc}
use lib.ListN.{length}
use Rattle.polynomial.specs.Sparse.{nonzeros}
use Rattle.encoding.specs.Challenge.{entries_from}

pub length_entries : (i : ℕ) (c : List ℤ) → length (entries_from i c) ≡ nonzeros c
length_entries i [] = refl
length_entries i (pos zero ∷ c) = length_entries (suc i) c
length_entries i (pos (suc a) ∷ c) = ap suc (length_entries (suc i) c)
length_entries i (negsuc a ∷ c) = ap suc (length_entries (suc i) c)
