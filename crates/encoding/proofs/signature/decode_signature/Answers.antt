-- `decode_signature` meets its contract: the two lists, read into the fronts of their arrays.
use Rattle.std.proofs.Common.{rules, arith, ◌-◌, ◌*◌, ◌∙◌, length, drop, replicate, refl}
use Rattle.std.specs.Prelude.{pos}
use Rattle.std.proofs.lemmas.List.{map-id}
use Rattle.parameters.specs.Limits.{max_b, max_n}
use Rattle.encoding.proofs.Decoded.{decoded}
use Rattle.encoding.proofs.signature.decode_signature.Goals as goal

pub returns-clause-entries : goal.returns-clause-entries
returns-clause-entries c = let b = c.args.p.b in decoded _ 2 b (2 * b) (replicate max_b 0) c.args.body.now (search rules) refl c.read_list.ensures ∙ map-id _

pub returns-clause-z : goal.returns-clause-z
returns-clause-z c = let body = c.args.body.now in
    let b = c.args.p.b in
    let n = c.args.p.n in
    decoded _ 2 n (length body - 2 * b) (replicate max_n (pos 0)) (drop (2 * b) body) (search rules) (omega (arith, c.requires.body_len)) c.read_list-2.ensures
