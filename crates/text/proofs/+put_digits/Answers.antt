-- `put_digits` writes the last digit behind the others.
use Rattle.std.proofs.Common.{◌≡◌, [], ◌∷◌, ◌+◌, ◌%◌, inl, inr, arith}
use Rattle.text.specs.Text.{digits}
use Rattle.text.proofs.Text.{digits_last, digits_short, digits_long}
use Rattle.text.proofs.Appending.{appended_then}
use Rattle.text.proofs.+put_digits.Goals as goal

pub returns-then-more-eq0-clause-text : goal.returns-then-more-eq0-clause-text
returns-then-more-eq0-clause-text t c = let m = c.args.more in
    let n = c.args.n in
    let one : digits m n ≡ (48 + n % 10) ∷ [] = elim c.then-more-eq0.either [ inl e ↦ digits_last m n e | inr s ↦ digits_short m n s.1 ] in
    rw one c.put.ensures

pub returns-clause-text : goal.returns-clause-text
returns-clause-text t c = rw (digits_long c.args.more c.args.n (omega arith) (omega arith)) (appended_then c.put_digits-next.ensures.text c.put-2.ensures)
