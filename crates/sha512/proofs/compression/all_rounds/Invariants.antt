-- `all_rounds` does four rounds a turn.
use Rattle.std.proofs.Common.{◌≡◌, ◌*◌}
use Rattle.sha512.specs.Compression.{rounds}
use Rattle.sha512.proofs.compression.all_rounds.Given as goal

abbrev pub invariant-loop-turn : goal.invariant-loop-turn
invariant-loop-turn l = l.s ≡ rounds (4 * l.turn) l.w l.fn.h
