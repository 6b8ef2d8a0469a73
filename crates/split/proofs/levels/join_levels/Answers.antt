-- `join_levels` meets its contract: a level a turn.
use native.Mathlib.Omega.{arith}
use Rattle.split.proofs.LevelLoops.{join_first, join_asks, join_next, join_done}
use Rattle.split.proofs.levels.join_levels.Goals as goal

pub loop-nodes-init : goal.loop-nodes-init
loop-nodes-init c = join_first c.args.stages.now.staged.tree c.args.stages.now.l c.requires.x_len.1

pub turn_level-requires-clause-h_in_bounds : goal.turn_level-requires-clause-h_in_bounds
turn_level-requires-clause-h_in_bounds c = let s = c.args.stages.now in
    join_asks s.staged.tree s.l c.loop-nodes.invariant c.loop-nodes-test.true c.requires.x_len.0 (omega (arith, s.staged.room))

pub loop-nodes-preserved : goal.loop-nodes-preserved
loop-nodes-preserved c = let s = c.args.stages.now in
    join_next s.staged.tree s.l c.loop-nodes.invariant c.loop-nodes-test.true c.requires.x_len.0 c.turn_level.ensures

pub returns-clause-joined : goal.returns-clause-joined
returns-clause-joined c = (join_done c.args.stages.now.staged.tree c.loop-nodes.invariant c.loop-nodes-test.false).1

pub returns-clause-under : goal.returns-clause-under
returns-clause-under c = (join_done c.args.stages.now.staged.tree c.loop-nodes.invariant c.loop-nodes-test.false).0
