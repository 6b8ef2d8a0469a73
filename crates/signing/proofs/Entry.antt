-- The entry `sign` tests the message and the set of the key first; in that set it is the signing that is defined over any set.
-- Assumes nothing.
use mathlib.Core.Path.{◌≡◌}
use mathlib.Core.Bool.{false}
use mathlib.Core.List.{List}
use mathlib.Core.Logic.{◌↔◌}
use Prim.Native.Nat.{ℕ}
use native.Mathlib.Omega.{arith}
use lib.IntN.{ℤ}
use lib.ListN.{length}
use Rattle.parameters.specs.declared.Params.{Params}
use Rattle.challenge.specs.Draw.{draw_challenge}
use Rattle.refusal.specs.Numbers.{wrong_length}
use Rattle.refusal.specs.Answer.{set_in, is_long}
use Rattle.refusal.proofs.Chain.{passed}
use Rattle.refusal.proofs.SetRefusal.{HasSet, in_a_set, in_a_set_iff}
use Rattle.signing.specs.Sign.{sign_refusal_in, sign_refusal, sign_answer_in, sign_written_in, sign_answer, sign_written}

-- the message is not too long, and the key has a set
pub record Known (key message : List ℕ) : Type 0 where
  pub short : is_long message ≡ false
  pub set : HasSet key

module _ (rule : ℕ) (key exponents : List ℕ) (masks : List ℤ) (message out : List ℕ) where
  -- what the set decides
  abbrev refusal : Params → ℕ
  refusal p = sign_refusal_in rule p key exponents masks (length out)

  pub known_iff : (sign_refusal rule key exponents masks message out ≡ 0)
      ↔ (Known key message × (sign_refusal_in rule (set_in key) key exponents masks (length out) ≡ 0))
  unfolding sign_refusal
  known_iff =
      let tests = passed (is_long message) {a = wrong_length} (λ e. omega arith) (in_a_set_iff key refusal) in
      (λ e. let h = tests.0 e in (record { short = h.0; set = h.1.0 }, h.1.1), λ h. tests.1 (h.0.short, (h.0.set, h.1)))

  module _ (k : Known key message) where
    known_refusal : sign_refusal rule key exponents masks message out ≡ sign_refusal_in rule (set_in key) key exponents masks (length out)
    unfolding sign_refusal
    known_refusal = rw k.short (in_a_set key refusal k.set)

    pub answer_entry : sign_answer rule key exponents masks message out ≡ sign_answer_in draw_challenge rule (set_in key) key exponents masks message out
    unfolding sign_answer sign_answer_in
    answer_entry = rw known_refusal

    pub written_entry : sign_written rule key exponents masks message out ≡ sign_written_in draw_challenge rule (set_in key) key exponents masks message out
    unfolding sign_written sign_written_in
    written_entry = rw known_refusal
