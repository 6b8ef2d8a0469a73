-- `write` writes head, what is added, and the line feed.
use native.Mathlib.Omega.{arith}
use Rattle.text.proofs.Appending.{appended_then}
use Rattle.session.proofs.RowText.{row_text_lem, at_front_lem}
use Rattle.session.proofs.Row.write.Goals as goal

pub returns : goal.returns
returns c = let rest = appended_then c.put_added-next.ensures.text c.put.ensures in
    rw (row_text_lem, ← c.number.ensures) (at_front_lem (appended_then c.put_head-next.ensures.text rest) (omega arith))
