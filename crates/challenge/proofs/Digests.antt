-- Digests that stand one after the other: each has 64 bytes, so byte i of the pool is byte i % 64 of digest i / 64.
-- Assumes nothing.
use mathlib.Core.Path.{◌≡◌, ap, ◌∙◌}
use mathlib.Core.List.{List, [], ◌++◌, flatten}
use Prim.Native.Nat.{ℕ, zero, suc, ◌+◌, ◌*◌, ◌/◌, ◌%◌, ◌<◌}
use native.Mathlib.Nat.{not-suc-le-zero}
use native.Mathlib.Omega.{arith}
use lib.ListN.{length, get_or}
use Rattle.algebra.proofs.List.{flatten-length}
use Rattle.sha512.specs.Digest.{sha512}
use Rattle.sha512.proofs.DigestBytes.{digest_length}
use Rattle.challenge.specs.Asks.{DigestSizes}
use Rattle.challenge.specs.Pool.{commitment_bytes, digests, pool_digests, pool}
use Rattle.challenge.proofs.Joined.{joined_at}

pub pool_byte_at : (ds : List (List ℕ)) (i : ℕ) → DigestSizes ds → i < 64 * length ds → get_or (flatten ds) i 0 ≡ get_or (get_or ds (i / 64) []) (i % 64) 0
pool_byte_at ds i h l =
    let e : i ≡ i / 64 * 64 + i % 64 = omega arith in
    ap (λ (k : ℕ). get_or (flatten ds) k 0) e ∙ joined_at 64 ds [] 0 h (i / 64) (i % 64) (omega arith) (omega arith)

digests_sized : (n : ℕ) (d : List ℕ) → length d ≡ 64 → DigestSizes (digests n d)
unfolding digests
digests_sized zero d e k l = absurd (not-suc-le-zero l)
digests_sized (suc n) d e zero l = e
digests_sized (suc n) d e (suc k) l = digests_sized n (sha512 d) (digest_length d) k (omega arith)

pub pool_sized : (bytes message : List ℕ) → DigestSizes (pool_digests bytes message)
unfolding pool_digests
pool_sized bytes message = digests_sized 8 (sha512 (bytes ++ sha512 message)) (digest_length (bytes ++ sha512 message))

-- the pool has 512 bytes, under any rule
pub pool-length : (rule : ℕ) (w message : List ℕ) → length (pool rule w message) ≡ 512
unfolding pool pool_digests digests
pool-length rule w message = flatten-length 64 (pool_digests (commitment_bytes rule w) message) (pool_sized (commitment_bytes rule w) message)
