-- `small_sigma1` is σ1: two rotations and a shift.
use Rattle.sha512.specs.Word.{σ1}
use Rattle.sha512.proofs.compression.small_sigma1.Goals as goal

pub returns : goal.returns
unfolding σ1
returns c = cc
