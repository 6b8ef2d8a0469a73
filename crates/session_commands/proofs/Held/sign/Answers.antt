use Rattle.std.proofs.Common.{rules, ◌≡◌, ◌<◌, [], length, Some, Ok, Err}
use borrow.Rule.Slice.PartMut.{post_of}
use Rattle.refusal.specs.declared.Refusal.TheVariants.{NonePasses}
use Rattle.session_commands.specs.declared.Added.TheVariants.{Signed}
use Rattle.session_commands.proofs.Signed.{signed_with, passes_none, refuses}
use Rattle.session_commands.proofs.Clauses.{whatever_operand}
use Rattle.session_commands.proofs.Held.sign.Goals as goal

pub returns-in-Err-NonePasses : goal.returns-in-Err-NonePasses
returns-in-Err-NonePasses c =
    let x = c.in_ok-chosen.chosen in
    let js = c.in_ok-exponents.exponents.now in
    let left = c.in_ok-left.left in
    let message = c.in_ok-message.message.now in
    let set : c.self.inside.set ≡ Some x = search rules in
    let points : c.self.inside.exponents ≡ Some js = search rules in
    let key : c.self.inside.left ≡ Some left = search rules in
    let text : c.self.inside.message ≡ Some message = search rules in
    let some_left : 0 < left = search rules in
    let short : length message ≡ 64 = search rules in
    let told = rw c.number.ensures at c.sign_in-answer.ensures.answer in
    rw (← c.self.view_is)
    (whatever_operand (Err NonePasses) _ [] _ (passes_none c.self.inside x js message left set points key text some_left short _ (search rules) c.sign_in-answer.result told (search rules) []))

pub returns-in-Err : goal.returns-in-Err
returns-in-Err c =
    let x = c.in_ok-chosen.chosen in
    let js = c.in_ok-exponents.exponents.now in
    let left = c.in_ok-left.left in
    let message = c.in_ok-message.message.now in
    let set : c.self.inside.set ≡ Some x = search rules in
    let points : c.self.inside.exponents ≡ Some js = search rules in
    let key : c.self.inside.left ≡ Some left = search rules in
    let text : c.self.inside.message ≡ Some message = search rules in
    let some_left : 0 < left = search rules in
    let short : length message ≡ 64 = search rules in
    let told = rw c.number.ensures at c.sign_in-answer.ensures.answer in
    rw (← c.self.view_is)
    (whatever_operand (Err c.in-Err.refusal) _ [] _ (refuses c.self.inside x js message left set points key text some_left short _ (search rules) c.sign_in-answer.result told c.in-Err.refusal (search rules) (search rules) []))

pub returns-in-Ok : goal.returns-in-Ok
returns-in-Ok c =
    let x = c.in_ok-chosen.chosen in
    let js = c.in_ok-exponents.exponents.now in
    let left = c.in_ok-left.left in
    let message = c.in_ok-message.message.now in
    let set : c.self.inside.set ≡ Some x = search rules in
    let points : c.self.inside.exponents ≡ Some js = search rules in
    let key : c.self.inside.left ≡ Some left = search rules in
    let text : c.self.inside.message ≡ Some message = search rules in
    let some_left : 0 < left = search rules in
    let short : length message ≡ 64 = search rules in
    let told = rw c.number.ensures at c.sign_in-answer.ensures.answer in
    let wrote = rw c.number.ensures at c.sign_in-answer.ensures.written in
    rw (c.drop_masks.ensures, ← c.self.view_is)
    (whatever_operand (Ok (Signed c.in-Ok.passed c.signature_size-size.result)) _ _ _ (signed_with c.self.inside x js message left set points key text some_left short _ (search rules) c.sign_in-answer.result told _ (post_of 0 c.signature_size-size.result c.args.signature.now) wrote c.signature_size-size.result c.signature_size-size.ensures.value (search rules) c.in-Ok.passed (search rules)))
