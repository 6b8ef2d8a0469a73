-- `put_hex_byte` writes the high digit and then the low one.
use Rattle.text.specs.Text.{hex}
use Rattle.text.proofs.Appending.{appended_then}
use Rattle.text.proofs.put_hex_byte.Goals as goal

pub returns-clause-text : goal.returns-clause-text
unfolding hex
returns-clause-text c = rw (← c.hex_digit-high.ensures, ← c.hex_digit-low.ensures) (appended_then c.put-next.ensures c.put.ensures)
