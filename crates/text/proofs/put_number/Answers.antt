-- `put_number` writes a space and the digits: ten are enough for a u32.
use Rattle.std.proofs.Common.{arith}
use Rattle.text.proofs.Text.{digits_enough}
use Rattle.text.proofs.Appending.{appended_then}
use Rattle.text.proofs.put_number.Goals as goal

pub returns-clause-text : goal.returns-clause-text
returns-clause-text c = let ten = digits_enough 9 19 c.args.n (omega arith) (omega arith) in
    rw ten (appended_then c.put-next.ensures c.put_digits.ensures.text)
