-- `play_each` has called the closure at each row so far.
use mathlib.Core.Path.{◌≡◌}
use mathlib.Core.Bool.{true}
use lib.ListN.{length}
use Rattle.std.specs.Fn.{CalledAt}
use Rattle.parameters.specs.Limits.{row_room}
use Rattle.session_rules.proofs.Ending.{plays_left}
use Rattle.session.proofs.Whole.{Handed}
use Rattle.session.proofs.play_each.Given as goal

abbrev pub invariant-loop-rows : goal.invariant-loop-rows
invariant-loop-rows g l =
    (length l.rows ≡ row_room) × Handed (λ f row f'. CalledAt g.F.FnMut f row tt f') l.initial.each l.file l.session l.each × goal.F-IsAlwaysCallable g l.each

abbrev pub decreases-loop-rows : goal.decreases-loop-rows
decreases-loop-rows g l = plays_left l.file l.session true
