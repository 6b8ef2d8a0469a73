-- The coefficients of the bytes so far are read.
use Rattle.std.proofs.Common.{◌≡◌, take}
use Rattle.encoding.specs.Encoding.{key_in}
use Rattle.encoding.proofs.secret_key.read_key16.Given as goal

abbrev pub invariant-loop-i : goal.invariant-loop-i
invariant-loop-i l = take l.i l.out ≡ key_in (take l.i l.body)
