-- `take_thirds` meets its contract: each turn reads a triple that no turn before has written.
use Rattle.split.specs.Levels.{Tripled}
use Rattle.split.proofs.levels.take_thirds.Given as goal

abbrev pub invariant-loop-i : goal.invariant-loop-i
invariant-loop-i l = Tripled l.reducer.q l.c l.d l.h l.initial.x l.x l.i
