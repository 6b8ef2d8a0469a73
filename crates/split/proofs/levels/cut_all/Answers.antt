-- `cut_all` meets its contract: the first level, then the others.
use mathlib.Core.Path.{◌∙◌}
use native.Mathlib.Omega.{arith}
use lib.ListN.{length}
use Rattle.split.specs.Levels.{root_of}
use Rattle.split.proofs.FirstLevel.{cut_none}
use Rattle.split.proofs.LevelLoops.{under_weaker}
use Rattle.split.proofs.levels.cut_all.Goals as goal

pub cut_levels-requires : goal.cut_levels-requires
cut_levels-requires c = let f = c.first_level.ensures in
    record {
      x_len = (
        f.size ∙ c.requires.x_len.0,
        under_weaker (omega arith) (f.grown.each 1 (omega arith) (under_weaker (omega arith) c.requires.x_len.1)),
      );
    }

pub returns-clause-cut : goal.returns-clause-cut
returns-clause-cut c = let s = c.args.stages.now in
    let x = c.args.x.now in
    c.cut_levels.ensures.cut.each x
    (c.first_level.ensures.cut.each x (cut_none s.reducer.q (length s.twists.now) s.l (root_of s.reducer.q s.twists.now) x))
