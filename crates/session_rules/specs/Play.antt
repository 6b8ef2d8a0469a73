-- A session and one play of it: tests in the document's order, the session after it, and the row.
-- Assumes nothing.
use Rattle.std.specs.Prelude.{Bool, true, false, not, ◌&&◌, cond, List, [], ℕ, ◌+◌, ltb, leb, eqb, length, get_or, take, drop}
use Rattle.std.proofs.Math.Option.{Option, none, some}
use Rattle.challenge.specs.Pool.{low_byte_rule}
use Rattle.refusal.specs.Numbers.{wrong_length, no_set, file_ends, unknown_command, wrong_tag, bytes_after_end}
use Rattle.session_rules.specs.Held.{Chosen, params_of, is_held, Held, only_set}
use Rattle.session_rules.specs.CommandTable.{is_known, command_of}
use Rattle.session_rules.specs.Commands.{Payload, nothing, Result, command}
use Rattle.session_rules.specs.Rows.{row_text, at_front}

-- whether the session has ended, its place in the file (0 before the first play), its row count, and what is held
pub record Session : Type 0 where
  pub ended : Bool
  pub place : ℕ
  pub rows : ℕ
  pub held : Held

-- a session just opened: nothing is held, and rule 1 is in force
unfoldable pub opened : Session
opened = record { ended = false; place = 0; rows = 0; held = only_set low_byte_rule none }

-- what a play of a session that has not ended gives: the session after it, and the row's fields with the operand that was read
pub record Step : Type 0 where
  pub session : Session
  pub ordinal : ℕ
  pub byte : ℕ
  pub operand : List ℕ
  pub number : ℕ
  pub payload : Payload

-- a session file opens with the four bytes hex 50 53 47 31
unfoldable pub is_tagged : List ℕ → Bool
is_tagged file =
    leb 4 (length file) && (eqb (get_or file 0 0) 0x50 && (eqb (get_or file 1 0) 0x53 && (eqb (get_or file 2 0) 0x47 && eqb (get_or file 3 0) 0x31)))

-- a command that needs a set has none
abbrev pub lacks_set : ℕ → Option Chosen → Bool
lacks_set b set = (command_of b).needs_set && not (is_held set)

module _ (file : List ℕ) (at : ℕ) where
  -- the command byte due at a place: 00 where the file ends
  abbrev pub byte_due : ℕ
  byte_due = get_or file at 0

  -- its operand, of this size
  abbrev pub operand_due : ℕ → List ℕ
  operand_due size = take size (drop (at + 1) file)

  module _ (set : Option Chosen) where
    -- the size of its operand, in the set in force
    abbrev pub size_due : ℕ
    size_due = (command_of byte_due).size (params_of set)

    -- the refusal that ends the session where a command is due, or 0: 13 where the file ends, 14, 3, 13 inside the operand
    unfoldable pub refusal_due : ℕ
    refusal_due =
        cond (leb (length file) at) file_ends
        (cond (not (is_known byte_due)) unknown_command
        (cond (lacks_set byte_due set) no_set
        (cond (ltb (length file) (at + 1 + size_due)) file_ends 0)))

module _ (s : Session) where
  -- a row that ends the session. Nothing is played from there, so its place and row count stay, with all that is held
  abbrev pub ends_with : ℕ → ℕ → ℕ → Step
  ends_with ordinal byte number =
      record {
        session = record { ended = true; place = s.place; rows = s.rows; held = s.held };
        ordinal = ordinal;
        byte = byte;
        operand = [];
        number = number;
        payload = nothing;
      }

  -- before the first command: ordinal 0 and byte 00
  abbrev pub ends_before : ℕ → Step
  ends_before number = ends_with 0 0 number

  -- a command that ends the session
  abbrev pub ends_at : ℕ → ℕ → Step
  ends_at byte number = ends_with (s.rows + 1) byte number

  -- a command that goes on behind its operand
  abbrev pub goes_on : ℕ → ℕ → List ℕ → Result → Step
  goes_on next byte operand d =
      record {
        session = record { ended = false; place = next; rows = s.rows + 1; held = d.held };
        ordinal = s.rows + 1;
        byte = byte;
        operand = operand;
        number = d.number;
        payload = d.payload;
      }

  module _ (file : List ℕ) (at : ℕ) where
    -- 00 ends the session: accepted where nothing follows, else 16
    abbrev pub end_command : Step
    end_command = ends_at 0 (cond (eqb (length file) (at + 1)) 0 bytes_after_end)

    -- any other command, with an operand of this size, goes on
    abbrev pub going_command : ℕ → Step
    going_command size = goes_on (at + 1 + size) (byte_due file at) (operand_due file at size) (command s.held (byte_due file at) (operand_due file at size))

    -- the command due at a place: a refusal that is due ends the session, and prints the byte due; else 00 or any other is played
    unfoldable pub command_step : Step
    command_step =
        cond (not (eqb (refusal_due file at s.held.set) 0)) (ends_at (byte_due file at) (refusal_due file at s.held.set))
        (cond (eqb (byte_due file at) 0) end_command
        (going_command (size_due file at s.held.set)))

  -- the first play, at place 0, tests the length and the tag, and then plays the first command
  unfoldable pub step : List ℕ → Step
  step file =
      cond (ltb 0 s.place) (command_step file s.place)
      (cond (ltb 65536 (length file)) (ends_before wrong_length)
      (cond (not (is_tagged file)) (ends_before wrong_tag)
      (command_step file 4)))

-- what a play answers: a row was written, with this number; the row buffer is at fault; the session has ended
pub data PlayAnswer : Type 0 where
  row : ℕ → PlayAnswer
  fault : PlayAnswer
  over : PlayAnswer

-- the document's number of an answer: a row prints its own, a row buffer of another length is refusal 1, and after the end there is none
abbrev pub answer_number : PlayAnswer → Option ℕ
answer_number (row n) = some n
answer_number fault = some wrong_length
answer_number over = none

-- a row was written
abbrev pub is_row : PlayAnswer → Bool
is_row (row n) = true
is_row fault = false
is_row over = false

pub record Outcome : Type 0 where
  pub session : Session
  pub answer : PlayAnswer
  pub buffer : List ℕ

abbrev pub row_of : Step → List ℕ
row_of t = row_text t.ordinal t.byte t.number t.payload

-- a row buffer of 16,384 bytes
abbrev pub is_right : List ℕ → Bool
is_right buffer = eqb (length buffer) 16384

-- session and row buffer are left: by a play with a wrong row buffer, and by one after the end
abbrev pub faulty : Session → List ℕ → Outcome
faulty s buffer = record { session = s; answer = fault; buffer = buffer }

abbrev pub late : Session → List ℕ → Outcome
late s buffer = record { session = s; answer = over; buffer = buffer }

-- a play that writes a row
abbrev pub written : Session → List ℕ → List ℕ → Outcome
written s file buffer = record { session = (step s file).session; answer = row (step s file).number; buffer = at_front (row_of (step s file)) buffer }

-- one play, lent the file and a row buffer. A wrong row buffer is at fault ahead of all else
unfoldable pub play : Session → List ℕ → List ℕ → Outcome
play s file buffer = cond (not (is_right buffer)) (faulty s buffer) (cond s.ended (late s buffer) (written s file buffer))

-- its number: 1 for a wrong row buffer, none after the end, else the one that its row prints
unfoldable pub play_number : Session → List ℕ → List ℕ → Option ℕ
play_number s file buffer = cond (not (is_right buffer)) (some wrong_length) (cond s.ended none (some (step s file).number))
