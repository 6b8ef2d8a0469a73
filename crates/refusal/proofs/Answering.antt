-- Answers and buffers by a refusal number, and numbers that a test has found equal.
-- Assumes nothing.
use mathlib.Core.Path.{◌≡◌, refl}
use mathlib.Core.Bool.{true, ◌&&◌}
use mathlib.Core.List.{List, []}
use Prim.Native.Nat.{ℕ, zero, suc}
use lib.Dec.{eqb, eqb→eq}
use borrow.Author.Tests.{ne_eqb}
use Rattle.algebra.proofs.Test.{and_left, and_right, true_holds}
use Rattle.refusal.specs.Answer.{Refused, answer_of, unless_refused, stated, answer_states}
use Rattle.refusal.proofs.Apart.{done_not_refused}

-- an answer states the number that it was made of, and no values
pub states_answer : (n : ℕ) → answer_states (answer_of n) ≡ stated n []
states_answer zero = refl
states_answer (suc n) = refl

-- a refused call has a number, and leaves a buffer as it was
pub refused_number : (n : ℕ) {m : ℕ} → answer_of n ≡ Refused m → n ≡ 0 → ⊥
refused_number n e z = done_not_refused (rw z at e)

pub kept : {A : Type 0} (n : ℕ) (written before : List A) → (n ≡ 0 → ⊥) → before ≡ unless_refused n written before
kept n written before h = rw (ne_eqb n 0 h)

-- numbers that a guard has found equal
pub both_equal : (a b c d : ℕ) → (eqb a b && eqb c d) ≡ true → (a ≡ b) × (c ≡ d)
both_equal a b c d e = let t = true_holds e in (eqb→eq a b (and_left (eqb a b) _ t), eqb→eq c d (and_right (eqb a b) _ t))
