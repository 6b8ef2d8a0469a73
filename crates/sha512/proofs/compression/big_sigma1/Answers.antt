-- `big_sigma1` is Σ1: three rotations.
use Rattle.sha512.specs.Word.{Σ1}
use Rattle.sha512.proofs.compression.big_sigma1.Goals as goal

pub returns : goal.returns
unfolding Σ1
returns c = cc
