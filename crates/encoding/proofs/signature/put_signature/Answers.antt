-- `put_signature` meets its contract: the set byte, the challenge entries and z fill the buffer.
use Rattle.std.proofs.Common.{◌*◌, ◌∙◌, List, ℕ, ◌∷◌, ◌++◌, length, ap, ap₂, arith}
use Rattle.std.proofs.lemmas.List.{map-id}
use Rattle.encoding.specs.Bytes.{encoded}
use Rattle.encoding.specs.Encoding.{signature_bytes}
use Rattle.encoding.proofs.Writing.{length-encoded}
use Rattle.encoding.proofs.Buffer.{whole}
use Rattle.encoding.proofs.signature.put_signature.Goals as goal

pub returns : goal.returns
unfolding signature_bytes
returns c = let a = c.args in
    let u = c.write_list.ensures ∙ ap (encoded 2) (map-id a.entries.now) in
    whole a.out.now _ _ a.set (2 * length a.entries.now) (omega arith) (ap length u ∙ length-encoded 2 a.entries.now)
    ∙ ap₂ (λ (x y : List ℕ). a.set ∷ (x ++ y)) u c.write_list-2.ensures
