-- The loop of a test that ends at the first element that fails it, one block a turn.
-- Assumes nothing.
use Rattle.std.proofs.Common.{◌≡◌, ℕ, suc, zero, ◌+◌, ◌-◌, ◌≤◌, List, [], ◌∷◌, Bool, true, length, take, drop, sym, ap, ◌∙◌, arith, length-drop}
use lib.Dec.{T}
use lib.Seq.{take_all, drop-drop}
use Rattle.algebra.specs.All.{all}
use Rattle.algebra.proofs.Test.{and_left, and_right, holds_true, true_holds}
use Rattle.std.specs.List.{prefix_len}
use Rattle.std.proofs.lemmas.List.Sums.{prefix_len-le-length}

module _ {A : Type 0} (test : A → Bool) where
  -- elements at the front that pass may be passed over
  pass_over : (m : ℕ) (z : List A) → m ≤ length z → T (all test (take m z)) → prefix_len test z ≡ m + prefix_len test (drop m z)
  pass_over zero z h t = omega arith
  pass_over (suc m) [] h t = absurd (omega (arith, h))
  pass_over (suc m) (a ∷ z) h t =
      let first = holds_true (test a) (and_left (test a) (all test (take m z)) t) in
      let rest = pass_over m z (omega (arith, h)) (and_right (test a) (all test (take m z)) t) in
      rw first (omega (arith, rest))

  -- the first i elements are passed over
  pub record Passed (z : List A) (i : ℕ) : Type 0 where
    pub below : i ≤ length z
    pub rest : prefix_len test z ≡ i + prefix_len test (drop i z)

  module _ {z : List A} {i : ℕ} (s : Passed z i) where
    pub passed_rest : (n : ℕ) → n ≡ prefix_len test (take (length z - i) (drop i z)) → i + n ≡ prefix_len test z
    passed_rest n e = omega (arith, s.rest, e, ap (prefix_len test) (take_all (length z - i) (drop i z) (omega (arith, length-drop i z))))

    pub passed_room : (n : ℕ) → n ≡ prefix_len test (take (length z - i) (drop i z)) → i + n ≤ length z
    passed_room n e = omega (arith, passed_rest n e, prefix_len-le-length test z)

    pub passed_block : (m : ℕ) {t : Bool} → i + m ≤ length z → t ≡ all test (take (i + m - i) (drop i z)) → t ≡ true → Passed z (i + m)
    passed_block m h e taken = record {
      below = h;
      rest =
          let size : i + m - i ≡ m = omega arith in
          let inside = ap (λ (n : ℕ). all test (take n (drop i z))) (sym size) ∙ sym e ∙ taken in
          let block = pass_over m (drop i z) (omega (arith, length-drop i z, h)) (true_holds inside) in
          omega (arith, s.rest, block, ap (prefix_len test) (drop-drop m i z));
    }
