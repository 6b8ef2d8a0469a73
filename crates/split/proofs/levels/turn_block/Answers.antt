-- `turn_block` meets its contract: each turn reads a pair that no turn before has written.
use Rattle.split.proofs.LevelLaws.{paired_more, pair_below}
use Rattle.split.proofs.levels.turn_block.Goals as goal

pub turn-turned-requires : goal.turn-turned-requires
turn-turned-requires g c = let pair = pair_below c.loop-i.invariant c.loop-i-test.true c.requires.h_in_bounds.2 in
    (c.requires.c_below, pair.0, pair.1)

pub loop-i-preserved : goal.loop-i-preserved
loop-i-preserved g c =
    paired_more c.loop-i.invariant c.loop-i-test.true c.requires.h_in_bounds.0 c.turn-turned.ensures.0 c.turn-turned.ensures.1
