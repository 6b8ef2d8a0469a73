-- `challenge::draw_from` meets its contract. After m values the marks, the challenge and the count stand for the indices kept.
use Rattle.std.proofs.Common.{◌≤◌}
use Rattle.challenge.specs.Draw.{kept}
use Rattle.challenge.proofs.Kept.{Held}
use Rattle.challenge.proofs.draw_from.Given as goal

abbrev pub invariant-loop-m : goal.invariant-loop-m
invariant-loop-m l = (l.count ≤ l.p.b) × Held l.p l.pool (kept l.p l.pool l.m) l.marks l.challenge l.count
