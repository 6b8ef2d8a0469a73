-- `add_product` meets its contract: the product and the sum fit 16 bits.
use Rattle.std.proofs.Common.{◌≤◌, ◌*ℤ◌, nat_abs, rules, arith}
use native.Mathlib.Nat.{mul-le-mul}
use Rattle.algebra.proofs.Absolute.{abs-mul}
use Rattle.polynomial.proofs.product.add_product.Goals as goal

pub returns : goal.returns
returns c = let small : nat_abs (c.args.a *ℤ c.args.x) ≤ 1 = omega (arith, abs-mul c.args.a c.args.x, mul-le-mul c.requires.1 c.requires.2) in search rules
