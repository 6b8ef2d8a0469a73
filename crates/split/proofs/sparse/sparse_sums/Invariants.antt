-- `sparse_sums` meets its contract.
use Rattle.split.proofs.SparseLaws.{SumsOf}
use Rattle.split.proofs.sparse.sparse_sums.Given as goal

abbrev pub invariant-loop-m : goal.invariant-loop-m
invariant-loop-m l = SumsOf l.c l.order l.twice l.sums l.m
