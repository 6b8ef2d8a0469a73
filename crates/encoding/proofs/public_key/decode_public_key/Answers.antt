-- `decode_public_key` meets its contract: the two lists, read into the fronts of their arrays.
use Rattle.std.proofs.Common.{rules, arith, ◌-◌, ◌*◌, ◌∙◌, length, drop, replicate, refl}
use Rattle.std.proofs.lemmas.List.{map-id}
use Rattle.parameters.specs.Limits.{max_t}
use Rattle.encoding.proofs.Decoded.{decoded}
use Rattle.encoding.proofs.public_key.decode_public_key.Goals as goal

pub returns-clause-exponents : goal.returns-clause-exponents
returns-clause-exponents c = let t = c.args.p.t in decoded _ 2 t (2 * t) (replicate max_t 0) c.args.body.now (search rules) refl c.read_list.ensures ∙ map-id _

pub returns-clause-evaluations : goal.returns-clause-evaluations
returns-clause-evaluations c = let body = c.args.body.now in
    let t = c.args.p.t in
    decoded _ 3 t (length body - 2 * t) (replicate max_t 0) (drop (2 * t) body) (search rules) (omega (arith, c.requires.body_len)) c.read_list-2.ensures ∙ map-id _
