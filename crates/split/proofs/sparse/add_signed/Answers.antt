-- `add_signed` meets its contract: one number a turn.
use Rattle.split.proofs.SparseLaws.{added_none, turned_fits, turned_more, added_all}
use Rattle.split.proofs.sparse.add_signed.Goals as goal

pub loop-v-init : goal.loop-v-init
loop-v-init g c = added_none c.requires.row_len.0

pub overflow_add-sums : goal.overflow_add-sums
overflow_add-sums g c =
    turned_fits c.loop-v.invariant c.loop-v-test.true c.requires.row_len.1 c.requires.row_len.2 c.requires.sign

pub loop-v-preserved : goal.loop-v-preserved
loop-v-preserved g c =
    turned_more c.loop-v.invariant c.loop-v-test.true c.requires.row_len.1 c.requires.row_len.2 c.requires.sign

pub returns : goal.returns
returns g c = added_all c.loop-v.invariant c.loop-v-test.false
