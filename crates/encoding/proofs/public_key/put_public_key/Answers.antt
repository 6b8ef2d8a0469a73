-- `put_public_key` meets its contract: the set byte, the exponents and the evaluations fill the buffer.
use Rattle.std.proofs.Common.{◌*◌, ◌∙◌, List, ℕ, ◌∷◌, ◌++◌, length, ap, ap₂, arith}
use Rattle.std.proofs.lemmas.List.{map-id}
use Rattle.encoding.specs.Bytes.{encoded}
use Rattle.encoding.specs.Encoding.{public_key}
use Rattle.encoding.proofs.Writing.{length-encoded}
use Rattle.encoding.proofs.Buffer.{whole}
use Rattle.encoding.proofs.public_key.put_public_key.Goals as goal

pub returns : goal.returns
unfolding public_key
returns c = let a = c.args in
    let u = c.write_list.ensures ∙ ap (encoded 2) (map-id a.exponents.now) in
    let v = c.write_list-2.ensures ∙ ap (encoded 3) (map-id a.evaluations.now) in
    whole a.out.now _ _ a.set (2 * length a.exponents.now) (omega arith) (ap length u ∙ length-encoded 2 a.exponents.now)
    ∙ ap₂ (λ (x y : List ℕ). a.set ∷ (x ++ y)) u v
