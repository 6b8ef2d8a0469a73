-- `z_of` meets its contract: the product is summed in an array of zeros, then the mask is added.
use Rattle.std.proofs.Common.{◌^◌, List, ℤ, pos, length, replicate, ap, ◌∙◌}
use Rattle.algebra.proofs.Front.{stored}
use Rattle.polynomial.specs.Polynomial.{add}
use Rattle.polynomial.proofs.Bound.{within_zeros, within-take}
use Rattle.polynomial.proofs.ProductLoops.{zeros_front, product_size, mask_last}
use Rattle.polynomial.proofs.product.z_of.Goals as goal

pub add_star-requires : goal.add_star-requires
add_star-requires c = let (few, c_size, y_size, z_size) = c.requires.f_len_bound in
    let (f_small, c_small) = c.requires.are_ternary in
    let n = length c.args.f.now in
    record {
      f_len_bound = (few, c_size, zeros_front n few);
      small = (f_small, c_small, within-take (2 ^ 13) n (replicate 1153 (pos 0)) (within_zeros (2 ^ 13) 1153));
    }

pub returns : goal.returns
returns c = let (few, c_size, y_size, z_size) = c.requires.f_len_bound in
    let f = c.args.f.now in
    let y = c.args.y.now in
    c.add_mask.ensures
    ∙ ap (λ (s : List ℤ). add s y) (stored (length f) _ (product_size f c.args.c.now few) c.add_star.ensures).front
    ∙ mask_last f c.args.c.now y few y_size
