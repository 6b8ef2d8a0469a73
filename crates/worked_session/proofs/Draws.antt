-- The challenges that the sessions' commitments draw, under the rule that is named: SHA-512, the pool and the drawer, computed once for each.
-- Assumes nothing.
use mathlib.Core.Path.{◌≡◌, refl}
use mathlib.Core.List.{[], ◌∷◌, flatten}
use mathlib.Core.Option.{some}
use lib.IntN.{pos, negsuc}
use Rattle.sha512.specs.Word.{add, Σ0, Σ1, σ0, σ1}
use Rattle.sha512.specs.Bytes.{bytes16}
use Rattle.sha512.specs.Padding.{zeros, ending, pad, block_at}
use Rattle.sha512.specs.Constants.{round_constants, initial_hash_value}
use Rattle.sha512.specs.Compression.{words, next_word, expand, schedule, t1, t2, round, rounds, sums, compress}
use Rattle.sha512.specs.Digest.{chain, hash_value, bytes_of, sha512}
use Rattle.parameters.specs.Sets.{sets, set_of}
use Rattle.challenge.specs.Pool.{low_byte_rule, three_byte_rule, commitment_bytes, digests, pool_digests, pool}
use Rattle.challenge.specs.Draw.{sign_at, value_at, with_value, kept, placed, draw, draw_challenge}
use Rattle.worked_session.specs.WorkedSession.{message}

-- of the first mask's commitment
pub first_drawn : draw_challenge low_byte_rule (set_of 0) (18 ∷ 4 ∷ []) message ≡ some (pos 0 ∷ pos 1 ∷ pos 0 ∷ negsuc 0 ∷ pos 0 ∷ [])
unfolding message draw_challenge set_of sets draw placed kept with_value value_at sign_at pool commitment_bytes pool_digests digests flatten sha512 bytes_of hash_value
    chain compress sums rounds round t1 t2 schedule expand next_word words round_constants initial_hash_value block_at pad ending zeros bytes16 add Σ0 Σ1 σ0 σ1
first_drawn = refl

-- of the second mask's, which the check recovers
pub second_drawn : draw_challenge low_byte_rule (set_of 0) (18 ∷ 3 ∷ []) message ≡ some (pos 0 ∷ pos 1 ∷ negsuc 0 ∷ pos 0 ∷ pos 0 ∷ [])
unfolding message draw_challenge set_of sets draw placed kept with_value value_at sign_at pool commitment_bytes pool_digests digests flatten sha512 bytes_of hash_value
    chain compress sums rounds round t1 t2 schedule expand next_word words round_constants initial_hash_value block_at pad ending zeros bytes16 add Σ0 Σ1 σ0 σ1
second_drawn = refl

-- of the same under the other rule
pub second_by_two : draw_challenge three_byte_rule (set_of 0) (18 ∷ 3 ∷ []) message ≡ some (pos 1 ∷ pos 0 ∷ pos 1 ∷ pos 0 ∷ pos 0 ∷ [])
unfolding message draw_challenge set_of sets draw placed kept with_value value_at sign_at pool commitment_bytes pool_digests digests flatten sha512 bytes_of hash_value
    chain compress sums rounds round t1 t2 schedule expand next_word words round_constants initial_hash_value block_at pad ending zeros bytes16 add Σ0 Σ1 σ0 σ1
second_by_two = refl

-- of the mask that passes under rule 2, under both rules
pub third_by_two : draw_challenge three_byte_rule (set_of 0) (30 ∷ 10 ∷ []) message ≡ some (pos 0 ∷ pos 1 ∷ pos 0 ∷ pos 0 ∷ pos 1 ∷ [])
unfolding message draw_challenge set_of sets draw placed kept with_value value_at sign_at pool commitment_bytes pool_digests digests flatten sha512 bytes_of hash_value
    chain compress sums rounds round t1 t2 schedule expand next_word words round_constants initial_hash_value block_at pad ending zeros bytes16 add Σ0 Σ1 σ0 σ1
third_by_two = refl

pub third_by_one : draw_challenge low_byte_rule (set_of 0) (30 ∷ 10 ∷ []) message ≡ some (negsuc 0 ∷ pos 0 ∷ pos 0 ∷ pos 1 ∷ pos 0 ∷ [])
unfolding message draw_challenge set_of sets draw placed kept with_value value_at sign_at pool commitment_bytes pool_digests digests flatten sha512 bytes_of hash_value
    chain compress sums rounds round t1 t2 schedule expand next_word words round_constants initial_hash_value block_at pad ending zeros bytes16 add Σ0 Σ1 σ0 σ1
third_by_one = refl
