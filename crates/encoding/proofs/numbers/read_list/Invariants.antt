-- The numbers so far are read.
use Rattle.std.proofs.Common.{◌≡◌, take, map}
use Rattle.encoding.specs.Bytes.{numbers}
use Rattle.encoding.proofs.numbers.read_list.Given as goal

abbrev pub invariant-loop-i : goal.invariant-loop-i
invariant-loop-i g l = take l.i l.out ≡ map g.T.Encoded.of_bits (numbers g.T.Encoded.WIDTH l.i l.bytes)
