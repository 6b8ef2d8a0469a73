-- `difference` meets its contract: the product is below q × q, and that below 2^40.
use Prim.Native.Nat.{◌^◌, ◌<◌}
use native.Mathlib.Omega.{arith}
use Rattle.algebra.proofs.Remainder.{product_below}
use Rattle.checking.proofs.Recovery.{difference_is}
use Rattle.checking.proofs.difference.Goals as goal

pub overflow_mul-result : goal.overflow_mul-result
overflow_mul-result c = let small : c.from-modulus.result < 2 ^ 20 = omega arith in omega (arith, product_below small small)

pub overflow_add-result : goal.overflow_add-result
overflow_add-result c = let small : c.from-modulus.result < 2 ^ 20 = omega arith in omega (arith, product_below small small)

pub overflow_mul-result-2 : goal.overflow_mul-result-2
overflow_mul-result-2 c = let v : c.from-2.result < 2 ^ 20 = omega arith in
    let d : c.from-3.result < 2 ^ 20 = omega arith in
    omega (arith, product_below v d)

pub overflow_sub-result : goal.overflow_sub-result
overflow_sub-result c = let v : c.from-2.result < c.from-modulus.result = omega arith in
    let d : c.from-3.result < c.from-modulus.result = omega arith in
    omega (arith, product_below v d)

pub returns : goal.returns
returns c = let s = c.args in
    difference_is s.z s.v s.c c.requires.0 c.requires.1 c.requires.2 c.from.ensures c.from-modulus.ensures c.from-2.ensures c.from-3.ensures
