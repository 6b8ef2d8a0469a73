-- `challenge::low_bytes` meets its contract: the first W i bytes are those of the first i evaluations.
use Rattle.std.proofs.Common.{◌+◌, ◌*◌, ◌≤◌, length, arith}
use Rattle.std.proofs.lemmas.Grind.{common_steps}
use Rattle.challenge.proofs.CommitmentBytes.{low_bytes_more}
use Rattle.challenge.proofs.low_bytes.Goals as goal

pub loop-i-preserved : goal.loop-i-preserved
loop-i-preserved g c = let l = c.loop-i in
    let w = g.row.W in
    let room : w * l.i + w ≤ length l.bytes = grind (arith, common_steps) in
    low_bytes_more w l.i _ c.args.evaluations.now l.bytes _ _ (omega arith) (omega arith) room c.to_le_bytes-number.ensures c.copy_from_slice.ensures.after l.invariant
