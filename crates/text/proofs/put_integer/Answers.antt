-- `put_integer` writes a space, a minus sign where the number is negative, and the digits.
use Rattle.std.proofs.Common.{ap, ◌∙◌, arith}
use lib.IntN.{nat_abs}
use mir.Facts.{to_z-of_z}
use Rattle.text.proofs.Text.{text_negative, text_natural}
use Rattle.text.proofs.Appending.{appended_then}
use Rattle.text.proofs.put_integer.Goals as goal

pub returns-then-e-lt0-clause-text : goal.returns-then-e-lt0-clause-text
returns-then-e-lt0-clause-text c = let read = c.unsigned_abs.ensures.value ∙ ap nat_abs (to_z-of_z c.ranges.e) in
    let text = text_negative c.args.e (omega arith) (rw (to_z-of_z c.ranges.e) at c.if-e-lt0.true) in
    rw (text, ← read) (appended_then c.put-next.ensures (appended_then c.put-digits.ensures c.put_digits.ensures.text))

pub returns-clause-text : goal.returns-clause-text
returns-clause-text c = let read = c.unsigned_abs-2.ensures.value ∙ ap nat_abs (to_z-of_z c.ranges.e) in
    let text = text_natural c.args.e (omega arith) (rw (to_z-of_z c.ranges.e) at c.if-e-lt0.false) in
    rw (text, ← read) (appended_then c.put-next.ensures c.put_digits-2.ensures.text)
