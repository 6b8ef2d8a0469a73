-- `wide_challenge` meets its contract: one coefficient a turn.
use mathlib.Core.Path.{◌≡◌}
use lib.ListN.{length, take}
use Rattle.parameters.specs.Limits.{max_n}
use Rattle.split.proofs.points.wide_challenge.Given as goal

abbrev pub invariant-loop-i : goal.invariant-loop-i
invariant-loop-i l = (length l.out ≡ max_n) × (take l.i l.out ≡ take l.i l.c)
