-- The rule in force (document 02, #106): at each command that of the last accepted 0B before it, 1 before any. An accepted 01 leaves it, as every other command
-- does, and so does a 0B refused with 18.
-- Assumes nothing.
use Rattle.std.specs.Prelude.{◌≡◌, true, cond, List, [], ◌∷◌, ◌++◌, ℕ, get_or}
use Rattle.challenge.specs.Pool.{low_byte_rule, is_rule}
use Rattle.session_rules.specs.Held.{Held}
use Rattle.session_rules.specs.Plays.{Event, is_accepted}
use Rattle.session_rules.specs.HeldIsRead.{material_read}

-- the rule of the last accepted 0B of these commands, or this one where there is none
abbrev pub last_rule_or : ℕ → List Event → ℕ
last_rule_or rule [] = rule
last_rule_or rule (e ∷ es) = last_rule_or (cond (is_accepted 0x0B e) (get_or e.operand 0 0) rule) es

abbrev pub last_rule : List Event → ℕ
last_rule es = last_rule_or low_byte_rule es

pub record RuleInForce (es : List Event) (h : Held) : Type 0 where
  -- after the commands it is in force, and it is 1 or 2
  pub held : h.rule ≡ last_rule es
  pub known : is_rule (last_rule es) ≡ true
  -- what a 06 signs with, and a 07 judges by, is read from the commands before it: so is the rule
  pub read : (before rest : List Event) → es ≡ before ++ rest → (material_read before).rule ≡ last_rule before
