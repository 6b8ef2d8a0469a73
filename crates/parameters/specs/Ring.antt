-- What it is for numbers and a table of powers to be a set.
-- Assumes nothing.
use Rattle.std.specs.Prelude.{◌≡◌, Bool, ◌&&◌, List, ℕ, ◌^◌, ◌%◌, ◌<◌, eqb, length, get_or}
use Rattle.algebra.specs.Powers.{is_power_table}
use Rattle.parameters.specs.declared.Params.{Params}
use Rattle.parameters.specs.Sound.{Sound, Fitting}

-- "this is a set": sound, within the limits, and entry i of the table is g to the i modulo q, for each i below N
pub record Usable (p : Params) (powers : List ℕ) : Type 0 where
  pub sound : Sound p
  pub fitting : Fitting p
  pub table : (i : ℕ) → i < p.n → get_or powers i 0 ≡ p.g ^ i % p.q

-- the test of a table, computed over its own numbers: they are the N powers of g
unfoldable pub are_powers : Params → List ℕ → Bool
are_powers p t = eqb (length t) p.n && is_power_table p.g p.q t
