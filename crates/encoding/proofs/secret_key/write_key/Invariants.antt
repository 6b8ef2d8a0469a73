-- The bytes of the coefficients so far are written.
use Rattle.std.proofs.Common.{◌≡◌, map, take}
use Rattle.encoding.specs.Encoding.{key_byte}
use Rattle.encoding.proofs.secret_key.write_key.Given as goal

abbrev pub invariant-loop-i : goal.invariant-loop-i
invariant-loop-i l = take l.i l.out ≡ map key_byte (take l.i l.f)
