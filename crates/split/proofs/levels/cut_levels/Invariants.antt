-- `cut_levels` meets its contract: a level a turn.
use Rattle.split.proofs.LevelLoops.{CutTo}
use Rattle.split.proofs.levels.cut_levels.Given as goal

abbrev pub invariant-loop-leaves : goal.invariant-loop-leaves
invariant-loop-leaves l =
    CutTo l.stages.reducer.q l.stages.start l.stages.l l.stages.twists.now l.initial.x l.x l.nodes l.leaves

abbrev pub decreases-loop-leaves : goal.decreases-loop-leaves
decreases-loop-leaves l = l.leaves
