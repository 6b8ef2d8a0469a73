-- Plays with right row buffers move the place forward inside the file, until the session ends.
-- Assumes nothing.
use mathlib.Core.Path.{◌≡◌, refl, sym, ap, subst, ◌∙◌}
use mathlib.Core.Bool.{Bool, true, false, true≢false, cond}
use mathlib.Core.List.{List, [], ◌∷◌, ◌++◌}
use Prim.Native.Nat.{ℕ, ◌+◌, ◌-◌, ◌≤◌, ◌<◌}
use native.Mathlib.Omega.{arith}
use lib.Dec.{T, eqb→eq}
use lib.ListN.{length}
use Rattle.algebra.specs.All.{all}
use Rattle.algebra.proofs.Test.{and_left, and_right, cond_by, by_test}
use Rattle.session_rules.specs.Play.{Session, step, is_row, Outcome, is_right, play}
use Rattle.session_rules.specs.Plays.{event_of, events_from}
use Rattle.session_rules.specs.After.{after}
use Rattle.session_rules.proofs.After.{play_by}
use Rattle.session_rules.proofs.Motion.{motion}

-- how many plays can be left until one writes no row: none where that has happened, one after the end, else a byte of the file for each and two more
abbrev pub plays_left : List ℕ → Session → Bool → ℕ
plays_left file s wrote = cond wrote (cond s.ended 1 (2 + (length file - s.place))) 0

-- where a play with a right buffer does not end the session, the place moves forward inside the file
pub moves_on : (s : Session) (file buffer : List ℕ) → length buffer ≡ 16384 → (play s file buffer).session.ended ≡ false
    → (s.place < (play s file buffer).session.place) × ((play s file buffer).session.place ≤ length file)
moves_on s file buffer right =
    play_by s file buffer (λ (o : Outcome). o.session.ended ≡ false → (s.place < o.session.place) × (o.session.place ≤ length file))
    (λ h e. absurd (h right)) (λ h e. absurd (true≢false (sym h ∙ e))) (λ h g e. (motion s file).forward e)

module _ (s : Session) (file buffer : List ℕ) (right : length buffer ≡ 16384) where
  -- a play that writes no row finds that the session has ended
  pub rowless_ended : is_row (play s file buffer).answer ≡ false → (play s file buffer).session.ended ≡ true
  rowless_ended =
      play_by s file buffer (λ (o : Outcome). is_row o.answer ≡ false → o.session.ended ≡ true)
      (λ h e. absurd (h right)) (λ h e. h) (λ h g e. absurd (true≢false e))

  -- each play leaves fewer to come
  pub fewer_left : plays_left file (play s file buffer).session (is_row (play s file buffer).answer) < plays_left file s true
  fewer_left =
      play_by s file buffer (λ (o : Outcome). plays_left file o.session (is_row o.answer) < plays_left file s true)
      (λ h. absurd (h right)) (λ h. rw h (omega arith))
      (λ h g. subst (λ (ended : Bool). plays_left file (step s file).session true < cond ended 1 (2 + (length file - s.place))) (sym g)
      (cond_by (λ (n : ℕ). n < 2 + (length file - s.place)) (step s file).session.ended (λ e. omega arith)
      (λ e. let (forward, inside) = (motion s file).forward e in omega arith)))

-- after the end no play writes a row, and the session stays
pub ended_stays : (file : List ℕ) (s : Session) → s.ended ≡ true → (buffers : List (List ℕ))
    → (events_from s file buffers ≡ []) × (after s file buffers ≡ s)
unfolding events_from after
ended_stays file s e [] = (refl, refl)
ended_stays file s e (buffer ∷ buffers) =
    play_by s file buffer
    (λ (o : Outcome). (event_of s file o ++ events_from o.session file buffers ≡ []) × (after o.session file buffers ≡ s))
    (λ h. ended_stays file s e buffers) (λ h. ended_stays file s e buffers) (λ h g. absurd (true≢false (sym e ∙ g)))

-- a byte of the file for each play, and one play more
pub ends_from : (s : Session) (file : List ℕ) (buffers : List (List ℕ)) → T (all is_right buffers) → s.place ≤ length file
    → length file + 1 ≤ length buffers + s.place → (after s file buffers).ended ≡ true
unfolding after
ends_from s file [] right inside enough = absurd (omega arith)
ends_from s file (buffer ∷ buffers) right inside enough =
    let next = (play s file buffer).session in
    by_test next.ended (λ e. ap (λ (r : Session). r.ended) (ended_stays file next e buffers).1 ∙ e)
    (λ e.
    let (forward, within) = moves_on s file buffer (eqb→eq (length buffer) 16384 (and_left (is_right buffer) (all is_right buffers) right)) e in
    ends_from next file buffers (and_right (is_right buffer) (all is_right buffers) right) within (omega arith))

-- a right row buffer is as good as another
one_play : (s : Session) (file b c : List ℕ) → length b ≡ 16384 → length c ≡ 16384 → (play s file b).session ≡ (play s file c).session
unfolding play
one_play s file b c h k = rw (h, k) (by_test s.ended (λ e. rw e) (λ e. rw e))

-- the session in which plays with right buffers end does not depend on what the buffers hold, nor on how many come after the end
pub one_end : (s : Session) (file : List ℕ) (bs cs : List (List ℕ)) → T (all is_right bs) → T (all is_right cs) → (after s file bs).ended ≡ true
    → (after s file cs).ended ≡ true → after s file bs ≡ after s file cs
unfolding after
one_end s file [] cs r t e f = sym (ended_stays file s e cs).1
one_end s file (b ∷ bs) [] r t e f = (ended_stays file s f (b ∷ bs)).1
one_end s file (b ∷ bs) (c ∷ cs) r t e f =
    let right = eqb→eq (length b) 16384 (and_left (is_right b) (all is_right bs) r) in
    let right' = eqb→eq (length c) 16384 (and_left (is_right c) (all is_right cs) t) in
    let same = one_play s file b c right right' in
    one_end (play s file b).session file bs cs (and_right (is_right b) (all is_right bs) r) (and_right (is_right c) (all is_right cs) t) e
    (subst (λ (x : Session). (after x file cs).ended ≡ true) (sym same) f)
    ∙ ap (λ (x : Session). after x file cs) same
