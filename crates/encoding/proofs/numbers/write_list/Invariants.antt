-- The numbers so far are written.
use Rattle.std.proofs.Common.{◌≡◌, ◌*◌, take, map}
use Rattle.encoding.specs.Bytes.{encoded}
use Rattle.encoding.proofs.numbers.write_list.Given as goal

abbrev pub invariant-loop-i : goal.invariant-loop-i
invariant-loop-i g l = take (g.T.Encoded.WIDTH * l.i) l.out ≡ encoded g.T.Encoded.WIDTH (map g.T.Encoded.bits (take l.i l.values))
