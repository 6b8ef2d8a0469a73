-- A table of powers is its set's: the size and the rule are computed over the table's own numbers.
-- Assumes nothing.
use mathlib.Core.Path.{◌≡◌, sym, subst}
use mathlib.Core.Bool.{true, ◌&&◌}
use mathlib.Core.List.{List}
use Prim.Native.Nat.{ℕ, ◌<◌}
use native.Mathlib.Omega.{arith}
use lib.Dec.{eqb, eqb→eq}
use lib.ListN.{length}
use Rattle.algebra.specs.Powers.{is_power_table}
use Rattle.algebra.proofs.Powers.{powers_of_test}
use Rattle.algebra.proofs.Test.{and_left, and_right, true_holds}
use Rattle.parameters.specs.declared.Params.{Params}
use Rattle.parameters.specs.Sets.{set_of}
use Rattle.parameters.specs.Sound.{Sound, Fitting}
use Rattle.parameters.specs.Ring.{Usable, are_powers}
use Rattle.parameters.proofs.Sound.{set_sound, set_fitting}

module _ (p : Params) (t : List ℕ) (e : are_powers p t ≡ true) where
  pub powers_size : length t ≡ p.n
  unfolding are_powers
  powers_size = eqb→eq (length t) p.n (and_left (eqb (length t) p.n) (is_power_table p.g p.q t) (true_holds e))

  pub usable_powers : Sound p → Fitting p → Usable p t
  unfolding are_powers
  usable_powers sound fitting =
      let rule = powers_of_test p.g p.q sound.modulus t (and_right (eqb (length t) p.n) (is_power_table p.g p.q t) (true_holds e)) in
      record { sound = sound; fitting = fitting; table = λ i b. rule.each i (omega (arith, powers_size)) }

-- a table that passes the test of a set
pub known_powers : {s : ℕ} → s < 5 → (t : List ℕ) → are_powers (set_of s) t ≡ true → Usable (set_of s) t
known_powers {s} below t e = usable_powers (set_of s) t e (set_sound s below) (set_fitting s below)

-- an arm of the match on a set: s is the number k of the arm
pub arm : (k : ℕ) {s : ℕ} → s ≡ k → (t : List ℕ) → (eqb (length t) (set_of k).n && is_power_table (set_of k).g (set_of k).q t) ≡ true
    → are_powers (set_of s) t ≡ true
unfolding are_powers
arm k is t e = subst (λ (x : ℕ). are_powers (set_of x) t ≡ true) (sym is) e
