-- The command due at a place, by its cases: none where the file ends, 00, one that is refused, and one that goes on.
-- Assumes nothing.
use mathlib.Core.Path.{◌≡◌, refl, sym, ◌∙◌}
use mathlib.Core.Bool.{Bool, true, false, cond}
use mathlib.Core.List.{List}
use mathlib.Core.Option.{Option}
use Prim.Native.Nat.{ℕ, ◌+◌, ◌-◌, ◌≤◌, ◌<◌}
use native.Mathlib.Omega.{arith}
use lib.Dec.{ltb}
use lib.ListN.{length, get_or, get_or-eq_default}
use borrow.Author.Tests.{le-leb, lt-leb, lt-ltb, le-ltb, ltb-true, ltb-false, ne_eqb}
use Rattle.algebra.proofs.Test.{by_test}
use Rattle.refusal.specs.Meaning.{refusal_number, ensured, number_in}
use Rattle.refusal.specs.declared.Refusal.{Refusal}
use Rattle.session_rules.specs.Held.{Chosen}
use Rattle.session_rules.specs.CommandTable.{is_known, command_of, command_table}
use Rattle.session_rules.specs.Play.{Session, refusal_due, ends_at, end_command, command_step}
use Rattle.session.specs.Due.{operand_size, refusal_behind}

-- a refusal has a number
some_refusal : (r : Refusal) → refusal_number r ≡ 0 → ⊥
some_refusal r e = grind (arith, e)

-- 00 needs no set, and has no operand
zero_allowed : (behind : ℕ) (set : Option Chosen) → refusal_behind 0 behind set ≡ 0
unfolding is_known command_of command_table
zero_allowed behind set = rw (le-ltb behind 0 (omega arith))

module _ (s : Session) (file : List ℕ) (at : ℕ) where
  pub none_due : length file ≤ at → command_step s file at ≡ ends_at s 0 13
  unfolding command_step refusal_due
  none_due h = rw (le-leb (length file) at h, get_or-eq_default file 0 h)

  module _ (inside : at < length file) where
    -- its byte, and how many bytes are behind it
    module _ (byte behind : ℕ) (first : byte ≡ get_or file at 0) (is : behind ≡ length file - (at + 1)) where
      short : (size : ℕ) → ltb (length file) (at + 1 + size) ≡ ltb behind size
      short size =
          by_test (ltb (length file) (at + 1 + size))
          (λ t. t ∙ sym (lt-ltb behind size (omega (arith, is, ltb-true (length file) (at + 1 + size) t))))
          (λ t. t ∙ sym (le-ltb behind size (omega (arith, is, ltb-false (length file) (at + 1 + size) t))))

      refusal_lem : refusal_due file at s.held.set ≡ refusal_behind byte behind s.held.set
      unfolding refusal_due
      refusal_lem = rw (lt-leb (length file) at inside, first, short (operand_size (get_or file at 0) s.held.set))

      pub refused_due : (r : Refusal) → refusal_number r ≡ refusal_behind byte behind s.held.set
          → command_step s file at ≡ ends_at s byte (refusal_number r)
      unfolding command_step
      refused_due r e = rw (refusal_lem, ← e, ← first, ne_eqb (refusal_number r) 0 (some_refusal r))

    pub zero_due : get_or file at 0 ≡ 0 → command_step s file at ≡ end_command s file at
    unfolding command_step
    zero_due z = rw (refusal_lem 0 (length file - (at + 1)) (sym z) refl, z, zero_allowed (length file - (at + 1)) s.held.set)

-- the number of a test
pub tested : (holds : Bool) (r : Refusal) → number_in (ensured holds r) ≡ cond holds 0 (refusal_number r)
tested true r = refl
tested false r = refl
