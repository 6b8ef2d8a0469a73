-- `join_levels` meets its contract: a level a turn.
use Rattle.split.proofs.LevelLoops.{JoinTo}
use Rattle.split.proofs.levels.join_levels.Given as goal

abbrev pub invariant-loop-nodes : goal.invariant-loop-nodes
invariant-loop-nodes l =
    JoinTo l.stages.reducer.q l.stages.start l.stages.l l.stages.twists.now l.initial.x l.x l.nodes l.leaves

abbrev pub decreases-loop-nodes : goal.decreases-loop-nodes
decreases-loop-nodes l = l.nodes
