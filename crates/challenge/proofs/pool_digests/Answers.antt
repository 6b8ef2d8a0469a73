-- `challenge::pool_digests` meets its contract: what SHA-512 ensures of each digest, one after the other.
use Rattle.challenge.specs.Pool.{digests, pool_digests}
use Rattle.challenge.proofs.pool_digests.Goals as goal

pub returns : goal.returns
unfolding pool_digests digests
returns c = rw (
  c.sha512-d7.ensures,
  c.sha512-d6.ensures,
  c.sha512-d5.ensures,
  c.sha512-d4.ensures,
  c.sha512-d3.ensures,
  c.sha512-d2.ensures,
  c.sha512-d1.ensures,
  c.sha512_of_two-d0.ensures,
  c.sha512-m.ensures,
)
