-- A signed number that has room is that of its bits: the law of the trait of encoded numbers.
-- Assumes nothing.
use Rattle.std.specs.Prelude.{◌≡◌, ◌-◌, ◌<◌, T, ltb, ℤ, pos, negsuc}
use Rattle.std.specs.Int.Signed.{mag}
use Rattle.std.proofs.Common.{ap, arith}
use borrow.Author.Tests.{lt-ltb, le-ltb}
use lib.Dec.{ltb→lt}
use Rattle.encoding.specs.Bytes.{bits16, signed16}

pub signed_of_bits : (z : ℤ) → T (ltb (mag z) 32768) → signed16 (bits16 z) ≡ z
signed_of_bits (pos n) t = rw (lt-ltb n 32768 (ltb→lt n 32768 t))
signed_of_bits (negsuc n) t =
    let h : n < 32768 = ltb→lt n 32768 t in
    rw (le-ltb (65535 - n) 32768 (omega arith)) (ap negsuc (omega arith))
