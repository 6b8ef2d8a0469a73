-- The row count over plays of one file: while the session goes on, it is the number of commands played.
-- Assumes nothing.
use mathlib.Core.Path.{◌≡◌, sym, ◌∙◌}
use mathlib.Core.Bool.{true, false, true≢false}
use mathlib.Core.List.{List}
use Prim.Native.Nat.{ℕ, ◌+◌}
use native.Mathlib.Nat.{zero-add}
use native.Mathlib.Omega.{arith}
use lib.ListN.{length}
use Rattle.algebra.proofs.Test.{by_test}
use Rattle.session_rules.specs.Play.{Session, opened, step}
use Rattle.session_rules.specs.Plays.{Event, events, Material, no_material}
use Rattle.session_rules.specs.HeldIsRead.{Available, none_available}
use Rattle.session_rules.specs.After.{after}
use Rattle.session_rules.proofs.Motion.{motion}
use Rattle.session_rules.proofs.Reaching.{kept_opened, plays_by}

pub counted_after : (file : List ℕ) (buffers : List (List ℕ)) → (after opened file buffers).ended ≡ false
    → (after opened file buffers).rows ≡ length (events file buffers)
unfolding events opened
counted_after file buffers goes =
    (plays_by file
    (λ (m : Material) (a : Available) (s : Session) (es : List Event) (t : Session).
    (s.ended ≡ true → t.ended ≡ true) × (t.ended ≡ false → t.rows ≡ s.rows + length es))
    (λ m a s w. (λ e. e, λ e. omega arith))
    (λ m a s w g buffer es t h. (
      λ e. absurd (true≢false (sym e ∙ g)),
      λ e. by_test (step s file).session.ended (λ f. absurd (true≢false (sym (h.0 f) ∙ e))) (λ f. omega (arith, h.1 e, (motion s file).counts f)),
    ))
    no_material none_available opened kept_opened buffers).1 goes
    ∙ zero-add (length (events file buffers))
