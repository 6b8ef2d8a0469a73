-- Repeated rotation, in which the product ⋆ and the code that works it out speak of one coefficient of a challenge.
-- Assumes nothing.
use Rattle.std.specs.Prelude.{List, ℕ, zero, suc, ℤ}
use Rattle.polynomial.specs.Polynomial.{rotate}

-- f rotated i places
abbrev pub rotations : ℕ → List ℤ → List ℤ
rotations zero f = f
rotations (suc i) f = rotate (rotations i f)
