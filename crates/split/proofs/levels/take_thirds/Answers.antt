-- `take_thirds` meets its contract: each turn reads a triple that no turn before has written.
use mathlib.Core.Path.{refl}
use native.Mathlib.Omega.{arith}
use Rattle.split.proofs.LevelLaws.{tripled_more, triple_below}
use Rattle.split.proofs.levels.take_thirds.Goals as goal

pub overflow_add-x : goal.overflow_add-x
overflow_add-x c = omega (arith, triple_below c.loop-i.invariant c.loop-i-test.true c.requires.h_in_bounds.2, c.args.reducer.sound.0.to)

pub overflow_add-x-in-loop-i : goal.overflow_add-x-in-loop-i
overflow_add-x-in-loop-i c = omega (arith, triple_below c.loop-i.invariant c.loop-i-test.true c.requires.h_in_bounds.2, c.args.reducer.sound.0.to)

pub third_part-requires : goal.third_part-requires
third_part-requires c = let t = triple_below c.loop-i.invariant c.loop-i-test.true c.requires.h_in_bounds.2 in
    (c.requires.roots_below.0, c.requires.roots_below.1, t.0, t.1, t.2)

pub third_part-requires-in-loop-i : goal.third_part-requires-in-loop-i
third_part-requires-in-loop-i c = let t = triple_below c.loop-i.invariant c.loop-i-test.true c.requires.h_in_bounds.2 in
    (c.requires.roots_below.1, c.requires.roots_below.0, t.0, t.1, t.2)

pub loop-i-preserved : goal.loop-i-preserved
loop-i-preserved c =
    tripled_more _ _ _ c.loop-i.invariant c.loop-i-test.true c.requires.h_in_bounds.0 refl c.third_part.ensures c.third_part-in-loop-i.ensures
