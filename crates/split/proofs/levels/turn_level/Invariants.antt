-- `turn_level` meets its contract: a block a turn, which no turn before has written.
use Prim.Native.Nat.{ℕ, ◌+◌}
use lib.ListN.{get_or}
use Rattle.split.specs.Levels.{Level}
use Rattle.split.proofs.levels.turn_level.Given as goal

abbrev pub invariant-loop-b : goal.invariant-loop-b
invariant-loop-b g l = Level (g.W.Turn.low l.reducer.q) (g.W.Turn.high l.reducer.q) (λ (b' : ℕ). get_or l.twists (l.nodes + b') 0) l.h l.initial.x l.x l.b
