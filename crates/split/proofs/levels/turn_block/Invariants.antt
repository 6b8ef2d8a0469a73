-- `turn_block` meets its contract: each turn reads a pair that no turn before has written.
use Rattle.split.specs.Levels.{Paired}
use Rattle.split.proofs.levels.turn_block.Given as goal

abbrev pub invariant-loop-i : goal.invariant-loop-i
invariant-loop-i g l = Paired (g.W.Turn.low l.reducer.q l.c) (g.W.Turn.high l.reducer.q l.c) l.from l.h l.initial.x l.x l.i
