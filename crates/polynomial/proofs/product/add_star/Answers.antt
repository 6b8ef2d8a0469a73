-- `add_star` meets its contract: after i turns the sums have the product with the challenge's first i coefficients added.
use Rattle.std.proofs.Common.{◌≡◌, rules, arith, sym, ap, ◌∙◌, to_z, of_z, w8}
use Rattle.polynomial.specs.Polynomial.{coefficient}
use Rattle.polynomial.proofs.ProductLoops.{factor_addable, multiplied_more, multiplied_same}
use Rattle.polynomial.proofs.product.add_star.Goals.{then-a-ne0, else-a-ne0}
use Rattle.polynomial.proofs.product.add_star.Goals as goal

pub add_rotated-requires : goal.add_rotated-requires
add_rotated-requires c = let (few, c_size, y_size) = c.requires.f_len_bound in
    let (f_small, c_small, y_small) = c.requires.small in
    let read : to_z w8 (of_z w8 (coefficient c.args.c.now c.loop-i.i)) ≡ coefficient c.args.c.now c.loop-i.i = search rules in
    rw read (factor_addable c.loop-i.invariant c.loop-i-test.true y_size (omega arith) f_small c_small y_small, omega arith)

pub loop-i-preserved : goal.loop-i-preserved
loop-i-preserved c = let read : to_z w8 (of_z w8 (coefficient c.args.c.now c.loop-i.i)) ≡ coefficient c.args.c.now c.loop-i.i = search rules in
    elim c.if-a-ne0.branch [
      | then-a-ne0 w ↦ multiplied_more c.loop-i.invariant c.loop-i-test.true (rw read at (w.sums-is ∙ w.add_rotated.ensures))
      | else-a-ne0 w ↦ rw w.sums-is (multiplied_same c.loop-i.invariant c.loop-i-test.true (omega arith) (sym read ∙ ap (to_z w8) w.if-a-ne0.false))
    ]
