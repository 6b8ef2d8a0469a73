-- `backwards_twice` meets its contract: one number a turn, at two places.
use lib.ListN.{length}
use Rattle.transform.specs.Asks.{Twice}
use Rattle.transform.proofs.convolution.backwards_twice.Given as goal

abbrev pub invariant-loop-i : goal.invariant-loop-i
invariant-loop-i l = Twice (length l.w) l.w l.v l.i
