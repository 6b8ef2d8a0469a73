-- Demand 1 of the code itself: any session that plays lead to, as the contracts of `open` and `play` allow. A play that answers a row with number n is as
-- `RowWritten` says: what a refusal leaves, what it has, which commands end the session, that the place moves forward where none does, and that the
-- buffer is the row and the bytes that were behind it.
-- Assumes nothing.
use mathlib.Core.Path.{◌≡◌, sym, ap, subst, ◌∙◌}
use mathlib.Core.List.{List, [], ◌∷◌}
use Prim.Native.Nat.{ℕ}
use Rattle.session_rules.specs.Play.{Session, row, Outcome}
use Rattle.session_rules.specs.After.{Reachable, once_more}
use Rattle.session_rules.specs.Refusals.{RowWritten}
use Rattle.session_rules.proofs.Refusals.{row_written}
use Rattle.session.specs.Played.{play_answer_of}
use Rattle.session.specs.Turns.{Turn, given, Turns, last_session}

-- plays lead from sessions that plays lead to, to such sessions: of one file, and so of one file after another
pub reachable_by_plays : (s : Session) → Reachable s → (file : List ℕ) (ts : List Turn) → Turns s file ts → Reachable (last_session s ts)
unfolding last_session
reachable_by_plays s r file [] h = r
reachable_by_plays s r file (t ∷ ts) h =
    let next = subst Reachable (sym (ap (λ (o : Outcome). o.session) h.0)) (once_more r file t.buffer_before) in
    reachable_by_plays t.session next file ts h.1

pub row_written_in_plays : (s : Session) → Reachable s → (file : List ℕ) (t : Turn) → Turns s file (t ∷ [])
    → (n : ℕ) → play_answer_of t.answer ≡ row n → RowWritten s file t.buffer_before n (given t)
row_written_in_plays s r file t h n e =
    rw h.0 (row_written r file t.buffer_before n (sym (ap (λ (o : Outcome). o.answer) h.0) ∙ e))
