-- One play by its three cases: a wrong row buffer, after the end, and a row.
-- Assumes nothing.
use mathlib.Core.Path.{◌≡◌}
use mathlib.Core.Bool.{true, false, not}
use mathlib.Core.List.{List}
use Prim.Native.Nat.{ℕ}
use native.Mathlib.Omega.{arith}
use lib.ListN.{length}
use borrow.Author.Tests.{eqb-true, eqb-false, not-true, not-false}
use Rattle.algebra.proofs.Test.{cond_by, by_test}
use Rattle.session_rules.specs.Play.{Session, step, row, answer_number, Outcome, is_right, faulty, late, written, play, play_number}

module _ (s : Session) (file buffer : List ℕ) where
  -- a claim about a play, by its three cases
  pub play_by : (P : Outcome → Type 0) → ((length buffer ≡ 16384 → ⊥) → P (faulty s buffer)) → (s.ended ≡ true → P (late s buffer))
      → (length buffer ≡ 16384 → s.ended ≡ false → P (written s file buffer)) → P (play s file buffer)
  unfolding play
  play_by P wrong ended right =
      cond_by P (not (is_right buffer)) (λ t. wrong (eqb-false (length buffer) 16384 (not-true (is_right buffer) t)))
      (λ t. cond_by P s.ended ended (right (eqb-true (length buffer) 16384 (not-false (is_right buffer) t))))

  pub play-written : length buffer ≡ 16384 → s.ended ≡ false → play s file buffer ≡ written s file buffer
  unfolding play
  play-written h e = rw (h, e)

  -- its number
  pub play_number_lem : answer_number (play s file buffer).answer ≡ play_number s file buffer
  unfolding play play_number
  play_number_lem = by_test (is_right buffer) (λ r. by_test s.ended (λ e. rw (r, e)) (λ e. rw (r, e))) (λ r. rw r)

  -- a claim about a play that wrote a row with number n
  pub written_by : (P : Outcome → Type 0) (n : ℕ) → (length buffer ≡ 16384 → s.ended ≡ false → (step s file).number ≡ n → P (written s file buffer))
      → (play s file buffer).answer ≡ row n → P (play s file buffer)
  written_by P n right =
      play_by (λ (o : Outcome). o.answer ≡ row n → P o) (λ h e. let z : ◌≡◌ {A = ℕ} 0 1 = cc in absurd (omega arith))
      (λ h e. let z : ◌≡◌ {A = ℕ} 0 1 = cc in absurd (omega arith)) (λ h g e. right h g (cc))
