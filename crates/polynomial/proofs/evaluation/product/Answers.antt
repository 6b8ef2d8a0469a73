-- `product` meets its contract: 15 bits with a sign times 32 bits.
use Rattle.std.proofs.Common.{ℕ, ◌<◌, ◌≤◌, ◌^◌, ℤ, pos, ◌*ℤ◌, nat_abs, rules, arith}
use native.Mathlib.Nat.{mul-le-mul, le_of_lt}
use Rattle.algebra.proofs.Absolute.{abs-mul}
use Rattle.polynomial.proofs.evaluation.product.Goals as goal

product_small : (a : ℤ) (x : ℕ) → nat_abs a ≤ 2 ^ 15 → x < 2 ^ 32 → nat_abs (a *ℤ pos x) ≤ 2 ^ 47
product_small a x h l = omega (arith, abs-mul a (pos x), mul-le-mul h (le_of_lt l))

pub returns-clause-value : goal.returns-clause-value
returns-clause-value c = let small = product_small c.args.a c.args.x (search rules) c.ranges.x.fits in search rules

pub returns-clause-small : goal.returns-clause-small
returns-clause-small c = let small = product_small c.args.a c.args.x (search rules) c.ranges.x.fits in search rules
