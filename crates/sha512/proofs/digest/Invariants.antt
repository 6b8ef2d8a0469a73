-- `digest` puts one word a turn.
use Rattle.std.proofs.Common.{◌≡◌, ◌*◌, length, take}
use Rattle.sha512.specs.Digest.{bytes_of}
use Rattle.sha512.proofs.digest.Given as goal

abbrev pub invariant-loop-i : goal.invariant-loop-i
invariant-loop-i l = (length l.out ≡ 64) × (take (8 * l.i) l.out ≡ bytes_of l.i l.h)
