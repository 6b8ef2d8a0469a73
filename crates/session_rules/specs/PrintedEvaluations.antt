-- "Row 03 prints it", in sessions: the public evaluations in signed form, by what is read from the commands before it.
-- Assumes nothing.
use Rattle.std.specs.Prelude.{List, ℕ}
use Rattle.session_rules.specs.Commands.{Payload, values, key_evaluations}
use Rattle.session_rules.specs.Plays.{Event, Material, params_in}
use Rattle.session_rules.specs.HeldIsRead.{Available}
use Rattle.session_rules.specs.PrintedRows.{EachPrints}

-- what an accepted 03 adds: the evaluations of its key at the points read, in the set read
abbrev pub evaluations_printed : Material → Available → List ℕ → Payload
evaluations_printed m a op = values (key_evaluations (params_in m) m.exponents op)

-- each accepted 03 of a list, with what is read from the commands before it
abbrev pub EachEvaluations : Material → Available → List Event → Type 0
EachEvaluations = EachPrints 3 evaluations_printed
