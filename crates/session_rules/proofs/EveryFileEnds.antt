-- Every file is taken to its end: from a session just opened, played with row buffers of 16,384 bytes, the session has ended after at most as many plays as
-- the file has bytes and one more. Whatever these buffers hold, and however many plays come after the end, it is one session, `after_file`. Each play,
-- whatever the session and the file, ends the session or moves its place forward; so only the first play is at place 0.
-- Assumes nothing.
use mathlib.Core.Path.{◌≡◌}
use mathlib.Core.Bool.{true}
use mathlib.Core.List.{List}
use mathlib.Core.Logic.{◌⊎◌, inl, inr}
use Prim.Native.Nat.{ℕ, zero, suc, ◌+◌, ◌≤◌, ◌<◌}
use native.Mathlib.Omega.{arith}
use lib.Dec.{T}
use lib.ListN.{length, replicate, length-replicate}
use borrow.Author.Tests.{eq-eqb}
use Rattle.algebra.specs.All.{all}
use Rattle.algebra.proofs.Test.{and_intro, true_holds, by_test}
use Rattle.session_rules.specs.Play.{Session, opened, is_right, play}
use Rattle.session_rules.specs.After.{after, fresh_buffer, after_file}
use Rattle.session_rules.proofs.Ending.{moves_on, ends_from, one_end}

pub every_file_ends : (file : List ℕ) (buffers : List (List ℕ)) → T (all is_right buffers) → length file + 1 ≤ length buffers
    → (after opened file buffers).ended ≡ true
unfolding opened
every_file_ends file buffers right enough = ends_from opened file buffers right (omega arith) (omega arith)

-- as many right row buffers as there are plays
buffers_right : (n : ℕ) → T (all is_right (replicate n fresh_buffer))
buffers_right zero = tt
buffers_right (suc n) =
    and_intro (is_right fresh_buffer) (all is_right (replicate n fresh_buffer))
    (true_holds (eq-eqb (length fresh_buffer) 16384 (length-replicate {A = ℕ} 16384 0))) (buffers_right n)

pub one_end_of_file : (file : List ℕ) (buffers : List (List ℕ)) → T (all is_right buffers) → (after opened file buffers).ended ≡ true
    → after opened file buffers ≡ after_file file
unfolding after_file
one_end_of_file file buffers right ended =
    let plays = replicate (length file + 1) fresh_buffer in
    let more = buffers_right (length file + 1) in
    one_end opened file buffers plays right more ended (every_file_ends file plays more (omega (arith, length-replicate (length file + 1) fresh_buffer)))

pub each_play_moves : (s : Session) (file buffer : List ℕ) → length buffer ≡ 16384
    → ((play s file buffer).session.ended ≡ true) ⊎ (s.place < (play s file buffer).session.place)
each_play_moves s file buffer right = by_test (play s file buffer).session.ended inl (λ e. inr (moves_on s file buffer right e).0)
