-- What the exponents so far show, and what is left to test.
use Rattle.std.proofs.Common.{◌≡◌, ◌&&◌, drop}
use Rattle.encoding.specs.Bytes.{increasing}
use Rattle.encoding.proofs.numbers.are_exponents.Given as goal

abbrev pub invariant-loop-exponent : goal.invariant-loop-exponent
invariant-loop-exponent l = (l.ok && increasing l.n l.from (drop l.exponent-index l.exponents)) ≡ increasing l.n 1 l.exponents
