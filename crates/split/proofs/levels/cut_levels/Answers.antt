-- `cut_levels` meets its contract: a level a turn.
use native.Mathlib.Omega.{arith}
use Rattle.split.proofs.LevelLoops.{cut_first, cut_asks, cut_next, cut_done}
use Rattle.split.proofs.levels.cut_levels.Goals as goal

pub loop-leaves-init : goal.loop-leaves-init
loop-leaves-init c = cut_first c.args.stages.now.staged.tree c.args.stages.now.l c.requires.x_len.1

pub turn_level-requires-clause-h_in_bounds : goal.turn_level-requires-clause-h_in_bounds
turn_level-requires-clause-h_in_bounds c = let s = c.args.stages.now in
    cut_asks s.staged.tree s.l c.loop-leaves.invariant c.loop-leaves-test.true c.requires.x_len.0 (omega (arith, s.staged.room))

pub loop-leaves-preserved : goal.loop-leaves-preserved
loop-leaves-preserved c = let s = c.args.stages.now in
    cut_next s.staged.tree s.l c.loop-leaves.invariant c.loop-leaves-test.true c.requires.x_len.0 c.turn_level.ensures

pub returns-clause-cut : goal.returns-clause-cut
returns-clause-cut c = (cut_done c.loop-leaves.invariant c.loop-leaves-test.false).1
