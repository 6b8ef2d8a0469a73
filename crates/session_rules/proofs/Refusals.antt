-- Demand 1 over plays, for every session that plays lead to and whatever file each play is lent. A refused command changes nothing of what is held, save
-- that 9 drops all masks; of the rest it changes only the place and the row count, and for 1, 3, 13, 14, 15 and 16 only the end. An accepted command ends
-- the session just where it is 00. Where a row does not end the session, the place moves forward inside the file. A play that writes a row leaves the bytes
-- behind it, and the row fits its buffer. A play with a wrong row buffer, which is refusal 1, or after the end changes nothing and writes nothing.
-- Assumes nothing.
use mathlib.Core.Path.{◌≡◌, refl, sym, ap, ◌∙◌}
use mathlib.Core.Bool.{Bool, true}
use mathlib.Core.List.{List}
use mathlib.Core.Option.{some}
use Prim.Native.Nat.{ℕ}
use native.Mathlib.Omega.{arith}
use lib.ListN.{length, drop, length-append, length-drop}
use borrow.Author.Tests.{ne_eqb}
use Rattle.algebra.proofs.Test.{cond_by}
use Rattle.session_rules.specs.Held.{Held}
use Rattle.session_rules.specs.Play.{Session, step, row, answer_number, Outcome, row_of, faulty, late, play}
use Rattle.session_rules.specs.After.{Reachable}
use Rattle.session_rules.specs.Refusals.{is_ending, RowWritten}
use Rattle.session_rules.proofs.After.{written_by}
use Rattle.session_rules.proofs.Motion.{motion}
use Rattle.session_rules.proofs.Reaching.{step_facts, row_short, kept_reachable}

-- a session by its parts
parts : (r : Session) {done : Bool} {place rows : ℕ} {h : Held} → r.ended ≡ done → r.place ≡ place → r.rows ≡ rows → r.held ≡ h
    → r ≡ record { ended = done; place = place; rows = rows; held = h }
parts r e p n h = rw (← e, ← p, ← n, ← h)

-- whatever session plays lead to, a play that answers a row with number n
pub row_written : {s : Session} → Reachable s → (file buffer : List ℕ) (n : ℕ) → (play s file buffer).answer ≡ row n
    → RowWritten s file buffer n (play s file buffer)
row_written {s} r file buffer n =
    let (m, (a, w)) = kept_reachable r in
    let x = step_facts m a s w file in
    let short = row_short m a s w file in
    let move = motion s file in
    let text = row_of (step s file) in
    written_by s file buffer (RowWritten s file buffer n) n
    (λ right goes same. record {
      number = same;
      rest = λ z.
          let refused : (step s file).number ≡ 0 → ⊥ = λ y. z (sym same ∙ y) in
          let ends = (x.refusal refused).ends ∙ ap is_ending same in
          parts (step s file).session ends
          (cond_by (λ (p : ℕ). (step s file).session.place ≡ p) (is_ending n) (λ e. (move.stays (ends ∙ e)).0) (λ e. refl))
          (cond_by (λ (r : ℕ). (step s file).session.rows ≡ r) (is_ending n) (λ e. (move.stays (ends ∙ e)).1) (λ e. move.counts (ends ∙ e)))
          (rw (← same) (x.refusal refused).leaves);
      forward = move.forward;
      alone = λ z. (x.refusal (λ y. z (sym same ∙ y))).alone;
      accepted_ends = λ z. x.accepted_ends (same ∙ z);
      buffer_is = refl;
      row_fits = omega arith;
      same_length = length-append text (drop (length text) buffer) ∙ omega (arith, length-drop (length text) buffer);
    })

-- a wrong row buffer is at fault ahead of all else: session and buffer are left
pub wrong_buffer : (s : Session) (file buffer : List ℕ) → (length buffer ≡ 16384 → ⊥) → play s file buffer ≡ faulty s buffer
unfolding play
wrong_buffer s file buffer h = rw (ne_eqb (length buffer) 16384 h)

-- it is refusal 1
pub wrong_buffer_number : (s : Session) (file buffer : List ℕ) → (length buffer ≡ 16384 → ⊥) → answer_number (play s file buffer).answer ≡ some 1
wrong_buffer_number s file buffer h = ap (λ (o : Outcome). answer_number o.answer) (wrong_buffer s file buffer h)

-- a play after the end leaves session and buffer
pub after_end : (s : Session) (file buffer : List ℕ) → length buffer ≡ 16384 → s.ended ≡ true → play s file buffer ≡ late s buffer
unfolding play
after_end s file buffer h e = rw (h, e)
