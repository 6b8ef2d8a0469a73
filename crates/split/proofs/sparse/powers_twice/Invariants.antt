-- `powers_twice` meets its contract.
use lib.ListN.{length}
use Rattle.transform.specs.Asks as asks
use Rattle.split.proofs.SparseLaws.{powers_backwards}
use Rattle.split.proofs.sparse.powers_twice.Given as goal

abbrev pub invariant-loop-i : goal.invariant-loop-i
invariant-loop-i l = asks.Twice (length l.order) (powers_backwards l.powers l.order) l.t l.i
