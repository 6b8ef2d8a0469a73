-- `turn_level` meets its contract: a block a turn, which no turn before has written.
use Rattle.split.proofs.LevelLaws.{level_more, node_asks}
use Rattle.split.proofs.levels.turn_level.Goals as goal

pub turn_block-requires-clause-h_in_bounds : goal.turn_block-requires-clause-h_in_bounds
turn_block-requires-clause-h_in_bounds g c = node_asks c.loop-b.invariant c.loop-b-test.true c.requires.h_in_bounds

pub loop-b-preserved : goal.loop-b-preserved
loop-b-preserved g c = level_more c.loop-b.invariant c.turn_block.ensures
