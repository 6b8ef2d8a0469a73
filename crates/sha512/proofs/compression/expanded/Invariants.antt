-- `expanded` adds four words to the schedule a turn.
use Rattle.std.proofs.Common.{◌*◌, take}
use Rattle.sha512.proofs.Steps.{Begun}
use Rattle.sha512.proofs.compression.expanded.Given as goal

abbrev pub invariant-loop-turn : goal.invariant-loop-turn
invariant-loop-turn l = Begun l.w (4 * l.turn) (take 16 l.fn.first)
