-- "The check says yes .. exactly when the paper's rule holds", in sessions: what the row of an accepted 07 prints, by what is read from the commands before it.
-- Assumes nothing.
use Rattle.std.specs.Prelude.{Bool, cond, List, ℕ}
use Rattle.challenge.specs.Draw.{draw_challenge}
use Rattle.scheme.specs.Scheme.{verdict}
use Rattle.checking.specs.Check.{body_read}
use Rattle.session_rules.specs.Commands.{Payload, judged}
use Rattle.session_rules.specs.Plays.{Event, Material, params_in}
use Rattle.session_rules.specs.HeldIsRead.{Available}
use Rattle.session_rules.specs.PrintedRows.{EachPrints}

module _ (m : Material) (a : Available) where
  -- the paper's rule on the signature that an operand means, with the rule of hashing, the points, the message and the public evaluations read
  abbrev pub holds_of : List ℕ → Bool
  holds_of op = verdict (draw_challenge m.rule) (params_in m) m.exponents m.message a.values (body_read (params_in m) op)

  -- what an accepted 07 adds: 1 where the rule holds, else 0
  abbrev pub verdict_printed : List ℕ → Payload
  verdict_printed op = judged (cond (holds_of op) 1 0)

-- each accepted 07 of a list, with what is read from the commands before it
abbrev pub EachVerdict : Material → Available → List Event → Type 0
EachVerdict = EachPrints 7 verdict_printed
