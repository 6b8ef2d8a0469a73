-- `after_blocks` takes one block a turn.
use Rattle.std.proofs.Common.{◌≡◌, ◌+◌, ◌-◌, ◌*◌, ◌/◌, length, take, drop, refl, ◌∙◌, ap₂, add-one, arith}
use Rattle.sha512.specs.Compression.{compress}
use Rattle.sha512.specs.Padding.{block_at}
use Rattle.sha512.specs.Digest.{chain, hash_value}
use Rattle.sha512.proofs.after_blocks.Goals as goal

pub loop-n-init : goal.loop-n-init
unfolding chain
loop-n-init c = refl

pub loop-n-preserved : goal.loop-n-preserved
unfolding chain block_at
loop-n-preserved c = let l = c.loop-n in
    let k : 128 * l.n + 128 - 128 * l.n ≡ 128 = omega arith in
    let m = c.args.bytes.now in
    rw add-one (c.compressed-next.ensures ∙ ap₂ (λ v j. compress v (take j (drop (128 * l.n) m))) l.invariant k)

pub returns : goal.returns
unfolding hash_value
returns c = let l = c.loop-n in
    let e : l.n ≡ length c.args.bytes.now / 128 = omega arith in
    rw e at l.invariant
