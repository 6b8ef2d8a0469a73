-- `challenge::pool_after` meets its contract: each digest of a pool has 64 bytes.
use Rattle.challenge.proofs.Digests.{pool_sized}
use Rattle.challenge.proofs.pool_after.Goals as goal

pub flat-requires : goal.flat-requires
flat-requires c = rw c.pool_digests.ensures (pool_sized c.args.commitment.now c.args.message.now)
