-- The number that the documents give each rule of hashing.
-- Assumes nothing.
use Rattle.std.specs.Prelude.{ℕ}
use Rattle.challenge.specs.declared.Rule.{Rule}
use Rattle.challenge.specs.declared.Rule.TheVariants as rule
use Rattle.challenge.specs.Pool.{low_byte_rule, three_byte_rule}

abbrev pub rule_number : Rule → ℕ
rule_number rule.LowByte = low_byte_rule
rule_number rule.ThreeBytes = three_byte_rule
