-- `sum_reordered` meets its contract: the numbers in order, then the stages.
use mathlib.Core.Path.{◌∙◌}
use lib.ListN.{length, drop, replicate}
use Rattle.algebra.proofs.Front.{stored}
use Rattle.split.proofs.ValueLaws.{ordered_length, ordered_under}
use Rattle.split.proofs.evaluation.sum_reordered.Goals as goal

pub correlate-requires : goal.correlate-requires
correlate-requires c = let size = ordered_length c.args.lifted.now c.args.order.now in
    let filled = stored (length c.args.order.now) (drop (length c.args.order.now) (replicate 1153 0)) size c.reorder.ensures in
    rw filled.front record {
      x_len = (
        size ∙ c.requires.order_len.0,
        c.requires.order_len.1 ∙ c.requires.order_len.0,
        ordered_under c.args.lifted.now c.args.order.now c.requires.lifted_below.0 c.requires.lifted_below.1,
      );
    }
