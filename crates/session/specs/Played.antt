-- What a step and a play give, in the rules' words.
-- Assumes nothing.
use Rattle.std.specs.Prelude.{◌≡◌, List, ℕ}
use Rattle.std.proofs.Math.Option.{Option}
use Rattle.refusal.specs.Meaning.{number_in}
use Rattle.session_rules.specs.Held.{Held}
use Rattle.session_rules.specs.Play as rules
use Rattle.session_commands.specs.Outcome.{payload_in}
use Rattle.session.specs.declared.Row.{Row}
use Rattle.session.specs.declared.PlayAnswer.{PlayAnswer}
use Rattle.session.specs.declared.PlayAnswer.TheVariants as answer

-- the row of a step, with what is held after it and the bytes of a signature
pub record IsRow (t : rules.Step) (h : Held) (bytes : List ℕ) (r : Row) : Type 0 where
  pub ordinal : r.ordinal ≡ t.ordinal
  pub byte : r.byte ≡ t.byte
  pub number : number_in r.outcome ≡ t.number
  pub payload : payload_in r.outcome h bytes ≡ t.payload

abbrev pub play_answer_of : PlayAnswer → rules.PlayAnswer
play_answer_of (answer.Row r) = rules.row (number_in r)
play_answer_of answer.Fault = rules.fault
play_answer_of answer.Ended = rules.over

-- document 01's number of an answer
abbrev pub play_number_of : PlayAnswer → Option ℕ
play_number_of a = rules.answer_number (play_answer_of a)

-- all that a play gives: the answer, the session after it, and the row buffer
abbrev pub outcome_of : PlayAnswer → rules.Session → List ℕ → rules.Outcome
outcome_of a s buffer = record { session = s; answer = play_answer_of a; buffer = buffer }
