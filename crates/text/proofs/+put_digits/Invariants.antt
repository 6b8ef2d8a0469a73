-- `put_digits` writes the digits before the last, by a call of itself with one digit less to spend, and then the last.
use Rattle.text.proofs.+put_digits.Given as goal

abbrev pub decreases-put_digits : goal.decreases-put_digits
decreases-put_digits l = l.more
