-- The set of an encoding: what it is to have one, and what then refuses.
-- Assumes nothing.
use mathlib.Core.Path.{◌≡◌}
use mathlib.Core.Bool.{true, false}
use mathlib.Core.List.{List}
use mathlib.Core.Logic.Iff
use mathlib.Core.Logic.{◌↔◌}
use Prim.Native.Nat.{ℕ}
use native.Mathlib.Omega.{arith}
use lib.Dec.{eqb}
use lib.ListN.{length}
use Rattle.parameters.specs.declared.Params.{Params}
use Rattle.parameters.specs.Sets.{is_set}
use Rattle.refusal.specs.Numbers.{wrong_length}
use Rattle.refusal.specs.Answer.{set_byte, set_in, in_set_of}
use Rattle.refusal.proofs.Chain.{passed, step}

-- the encoding is not empty, and its first byte is a set
pub record HasSet (xs : List ℕ) : Type 0 where
  pub some : eqb (length xs) 0 ≡ false
  pub set : is_set (set_byte xs) ≡ true

module _ (xs : List ℕ) (refusal : Params → ℕ) where
  pub in_a_set : HasSet xs → in_set_of xs refusal ≡ refusal (set_in xs)
  in_a_set h = rw (h.some, h.set)

  pub in_a_set_iff : (in_set_of xs refusal ≡ 0) ↔ (HasSet xs × (refusal (set_in xs) ≡ 0))
  in_a_set_iff =
      let tests = passed (eqb (length xs) 0) (λ (e : wrong_length ≡ 0). omega arith) (step (is_set (set_byte xs)) 1 Iff.rfl) in
      (λ e. let h = tests.0 e in (record { some = h.0; set = h.1.0 }, h.1.1), λ h. tests.1 (h.0.some, (h.0.set, h.1)))
