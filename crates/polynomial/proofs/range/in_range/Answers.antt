-- `in_range` meets its contract: none is outside exactly where all are in range.
use Rattle.std.proofs.Common.{ap, ◌∙◌, ℕ, length}
use lib.Dec.{eqb}
use Rattle.polynomial.proofs.FirstOutside.{prefix_len-all}
use Rattle.polynomial.proofs.range.in_range.Goals as goal

pub returns : goal.returns
returns g c = ap (λ (i : ℕ). eqb i (length c.args.numbers.now)) c.first_outside.ensures ∙ prefix_len-all _ c.args.numbers.now
