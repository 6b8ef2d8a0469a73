-- `add_rotated` meets its contract: the parts of the sums behind and before place i get the parts of f that the rotation brings there.
use Rattle.std.proofs.Common.{rules}
use Rattle.polynomial.proofs.Rotation.{add_parts}
use Rattle.polynomial.proofs.product.add_rotated.Goals as goal

pub returns : goal.returns
returns c = let (addable, place) = c.requires in
    let whole = add_parts c.args.sums.now c.args.f.now c.args.a c.args.i addable.size place in
    search rules
