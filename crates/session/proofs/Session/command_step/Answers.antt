-- `command_step` meets its contract: a row that ends the session adds nothing, whatever the bytes of a signature are.
use borrow.Author.Rules.{rules}
use Rattle.session.proofs.Due.{none_due, zero_due, refused_due, tested}
use Rattle.session.proofs.Session.command_step.Goals as goal

pub returns-in_default-clause-row : goal.returns-in_default-clause-row
returns-in_default-clause-row c = rw (none_due c.args.self.now c.args.file.now c.args.at (search rules)) (c.end.ensures.row c.args.signature.now)

pub returns-then-byte-eq0-clause-row : goal.returns-then-byte-eq0-clause-row
returns-then-byte-eq0-clause-row c =
    let row = c.end-then-byte-eq0.ensures.row c.args.signature.now in
    rw (zero_due c.args.self.now c.args.file.now c.args.at (search rules) (search rules)) (rw (c.ensure.ensures, tested _ _) at row)

pub returns-in-Err-clause-row : goal.returns-in-Err-clause-row
returns-in-Err-clause-row c =
    rw (refused_due c.args.self.now c.args.file.now c.args.at (search rules) _ _ (search rules) (search rules) c.in-Err.refusal c.in-Err.ensures.refusal)
    (c.end-in-Err.ensures.row c.args.signature.now)
