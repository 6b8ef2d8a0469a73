-- `big_sigma0` is Σ0: three rotations.
use Rattle.sha512.specs.Word.{Σ0}
use Rattle.sha512.proofs.compression.big_sigma0.Goals as goal

pub returns : goal.returns
unfolding Σ0
returns c = cc
