-- `put_hex` writes one byte a turn.
use Rattle.std.proofs.Common.{arith, refl, rules}
use Rattle.text.specs.Text.{hex}
use Rattle.text.proofs.Text.{hex-append}
use Rattle.text.proofs.Appending.{appended_none, appended_more}
use Rattle.text.proofs.put_hex.Goals as goal

pub loop-byte-init : goal.loop-byte-init
unfolding hex
loop-byte-init c = record { room = omega arith; size = refl; text = appended_none _ _ }

pub loop-byte-preserved : goal.loop-byte-preserved
loop-byte-preserved c = record {
  room = omega arith;
  size = search rules;
  text = appended_more hex hex-append _ _ 0 (omega arith) c.loop-byte.invariant.text c.put_hex_byte-next.ensures.text;
}
