use Rattle.std.proofs.Common.{rules, ◌≡◌, ◌+◌, ◌*◌, length, take, Some}
use Rattle.session_commands.proofs.Checked.{judged_by, judged}
use Rattle.session_commands.proofs.Clauses.{whatever_bytes}
use Rattle.session_commands.proofs.Held.check.Goals as goal

pub returns : goal.returns
returns c =
    let x = c.in_ok-ring.field-0 in
    let p = x.ring.params in
    let js = c.in_ok-exponents.exponents.now in
    let vs = c.in_ok-evaluations.evaluations.now in
    let message = c.in_ok-message.message.now in
    let op = c.args.operand.now in
    let set : c.self.inside.set ≡ Some x = search rules in
    let points : c.self.inside.exponents ≡ Some js = search rules in
    let values : c.self.inside.evaluations ≡ Some vs = search rules in
    let text : c.self.inside.message ≡ Some message = search rules in
    let points_size : length (take p.t js) ≡ p.t = search rules in
    let values_size : length (take p.t vs) ≡ p.t = search rules in
    let short : length message ≡ 64 = search rules in
    let size : length op ≡ 2 * p.b + 2 * p.n = search rules in
    let told : c.map.result ≡ judged_by c.check_in.result = search rules in
    rw (← c.self.view_is, told)
    (whatever_bytes _ _ _ (judged c.self.inside x js vs message c.self.invariant set points values text points_size values_size short op size c.check_in.result (search rules)))
