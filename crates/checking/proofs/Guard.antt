-- A check that the entry's first tests let through answers on what is read.
-- Assumes nothing.
use mathlib.Core.Path.{◌≡◌}
use mathlib.Core.Bool.{true, false, ◌||◌}
use mathlib.Core.List.{List}
use Prim.Native.Nat.{ℕ}
use lib.Dec.{eqb}
use lib.ListN.{length, drop}
use Rattle.challenge.specs.Draw.{draw_challenge}
use Rattle.encoding.specs.Encoding.{exponents_of, evaluations_of}
use Rattle.refusal.specs.Answer.{set_byte, set_in, is_long}
use Rattle.refusal.proofs.SetRefusal.{HasSet}
use Rattle.checking.specs.Check.{check_lengths, check_refusal_in, check_refusal, check_verdict, answer_on, check_answer}

module _ (key message signature : List ℕ) where
  -- what these tests let through
  pub record Guarded : Type 0 where
    pub sizes : (is_long message || eqb (length signature) 0) ≡ false
    pub has_set : HasSet key
    pub same_set : eqb (set_byte signature) (set_byte key) ≡ true
    pub lengths : check_lengths (set_in key) (length key) (length signature) ≡ true

  pub guarded_answer : Guarded → (rule : ℕ) → let p = set_in key in
      check_answer rule key message signature ≡ answer_on draw_challenge rule p (exponents_of p key) (evaluations_of p key) message (drop 1 signature)
  unfolding check_answer check_refusal check_refusal_in check_verdict answer_on
  guarded_answer g rule = rw (g.sizes, g.has_set.some, g.has_set.set, g.same_set, g.lengths)
