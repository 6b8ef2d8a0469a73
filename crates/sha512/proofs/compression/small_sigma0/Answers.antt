-- `small_sigma0` is σ0: two rotations and a shift.
use Rattle.sha512.specs.Word.{σ0}
use Rattle.sha512.proofs.compression.small_sigma0.Goals as goal

pub returns : goal.returns
unfolding σ0
returns c = cc
