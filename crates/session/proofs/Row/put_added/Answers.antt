-- `put_added` writes the fields of a signature, each after a space.
use Rattle.std.proofs.lemmas.List.{take_min}
use Rattle.text.proofs.Appending.{appended_then}
use Rattle.session.proofs.Row.put_added.Goals as goal

pub returns-in-Signed-clause-text : goal.returns-in-Signed-clause-text
returns-in-Signed-clause-text c =
    let bytes = rw (c.min.ensures, take_min c.in-Signed.size c.args.signature.now) at c.put_hex.ensures.text in
    let text = appended_then c.put_number-next.ensures.text (appended_then c.put-next.ensures bytes) in
    rw (c.in-Ok.is, c.in-Signed.is) text
