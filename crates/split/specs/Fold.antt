-- A sum of products reduced to a small number that is the same modulo q, by multiplications alone: a machine works out several of them at once.
-- Assumes nothing.
use Rattle.std.specs.Prelude.{cond, ℕ, ◌-◌, ◌*◌, ◌/◌, ◌^◌, ◌<◌, ◌≤◌, ltb}
use Rattle.split_tables.specs.Split.{split_from}

-- what the arithmetic asks of q
pub record Modulus (q : ℕ) : Type 0 where
  pub from : split_from ≤ q
  pub to : q < 2 ^ 20

-- 2^51 / q, worked out once
abbrev pub inverse : ℕ → ℕ
inverse q = 2 ^ 51 / q

-- s minus q times a guess of s / q that is never too large, and too small by less than 3: for s below 2^51 what is left is below 3 q
abbrev pub folded : ℕ → ℕ → ℕ
folded q s = s - s / 2 ^ 19 * inverse q / 2 ^ 32 * q

-- x, or x - q where x is at least q
abbrev pub lowered : ℕ → ℕ → ℕ
lowered q x = cond (ltb x q) x (x - q)
