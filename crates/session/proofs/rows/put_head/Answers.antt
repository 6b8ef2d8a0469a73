-- `put_head` writes three fields, of 20, 3 and 11 bytes at most.
use native.Mathlib.Omega.{arith}
use Rattle.text.proofs.Appending.{appended_then}
use Rattle.session.specs.Rows.{row_head}
use Rattle.session.proofs.rows.put_head.Goals as goal

pub returns : goal.returns
unfolding row_head
returns c = let byte = appended_then c.put_hex_byte-next.ensures.text c.put_number.ensures.text in
    record { text = appended_then c.put_digits-next.ensures.text (appended_then c.put-next.ensures byte); end = omega arith }
