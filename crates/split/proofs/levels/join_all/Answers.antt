-- `join_all` meets its contract: the other levels, then the first.
use lib.ListN.{length}
use Rattle.split.specs.Levels.{root_of}
use Rattle.split.proofs.FirstLevel.{join_none}
use Rattle.split.proofs.levels.join_all.Goals as goal

pub returns-clause-joined : goal.returns-clause-joined
returns-clause-joined c = let s = c.args.stages.now in
    let x = c.args.x.now in
    c.first_level.ensures.joined.each x
    (c.join_levels.ensures.joined.each x (join_none s.reducer.q (length s.twists.now) s.l (root_of s.reducer.q s.twists.now) x))
