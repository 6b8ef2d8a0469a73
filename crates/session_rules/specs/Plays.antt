-- Document 01, "Hiding, word by word": a list of plays of one file from a session just opened, and what each accepted 06 signs with, read from
-- the commands played before it and not from what the session holds.
-- Assumes nothing.
use Rattle.std.specs.Prelude.{Bool, ◌&&◌, cond, ℕ, suc, ◌+◌, ◌-◌, ◌*◌, ltb, eqb, ℤ, length, get_or, drop}
use mathlib.Core.List.{List, [], ◌∷◌, ◌++◌, flatten}
use Rattle.std.proofs.Math.Option.{none}
use Rattle.parameters.specs.declared.Params.{Params}
use Rattle.parameters.specs.Sets.{set_of}
use Rattle.challenge.specs.Pool.{low_byte_rule}
use Rattle.encoding.specs.Bytes.{numbers}
use Rattle.refusal.specs.Signing.{Signing}
use Rattle.refusal.specs.Signing as signing
use Rattle.refusal.specs.Numbers.{none_passes}
use Rattle.passign.specs.Hiding.{Call, our_library, SigningRecord}
use Rattle.session_rules.specs.Held.{Chosen, params_of}
use Rattle.session_rules.specs.Commands.{mask_of, signature_room}
use Rattle.session_rules.specs.Play.{Session, opened, step, PlayAnswer, row, fault, over, Outcome, play}

-- a command that was played: its byte, operand and number, and the row buffer after the play
pub record Event : Type 0 where
  pub byte : ℕ
  pub operand : List ℕ
  pub number : ℕ
  pub buffer : List ℕ

-- the command that a play of session s plays, where it writes a row
abbrev pub event_of : Session → List ℕ → Outcome → List Event
event_of s file o = of_answer o.answer
  where
    of_answer : PlayAnswer → List Event
    of_answer (row n) = record { byte = (step s file).byte; operand = (step s file).operand; number = n; buffer = o.buffer } ∷ []
    of_answer fault = []
    of_answer over = []

-- the commands played by a list of plays, whatever row buffer each is lent: the first play is handed s, each further one the session that
-- the last returned
unfoldable pub events_from : Session → List ℕ → List (List ℕ) → List Event
events_from s file [] = []
events_from s file (buffer ∷ buffers) = event_of s file (play s file buffer) ++ events_from (play s file buffer).session file buffers

unfoldable pub events : List ℕ → List (List ℕ) → List Event
events file buffers = events_from opened file buffers

-- ---- the signature bytes in a row: its fifth field, in hex

-- what follows the first space
abbrev pub after_space : List ℕ → List ℕ
after_space [] = []
after_space (x ∷ xs) = cond (eqb x 32) xs (after_space xs)

-- the value of an upper-case hex digit
abbrev pub hex_value : ℕ → ℕ
hex_value x = cond (ltb x 58) (x - 48) (x - 55)

-- the bytes of hex digits up to the line feed
abbrev pub unhex : List ℕ → List ℕ
unhex [] = []
unhex (x ∷ []) = []
unhex (x ∷ y ∷ rest) = cond (eqb x 10) [] ((hex_value x * 16 + hex_value y) ∷ unhex rest)

unfoldable pub printed_signature : List ℕ → List ℕ
printed_signature buffer = unhex (after_space (after_space (after_space (after_space buffer))))

-- ---- what a 06 signs with, read from the commands

-- the rule of the last accepted 0B, 1 before any; the set of the last accepted 01 with its numbers, the operands of the last accepted 02, 03 and 05, and the
-- masks of each accepted 04 since that 01 less those dropped
pub record Material : Type 0 where
  pub rule : ℕ
  pub set : Chosen
  pub exponents : List ℕ
  pub key : List ℕ
  pub message : List ℕ
  pub masks : List (List ℤ)

-- before any command
unfoldable pub no_material : Material
no_material = record { rule = low_byte_rule; set = record { byte = 0; params = params_of none }; exponents = []; key = []; message = []; masks = [] }

-- the number of masks passed over before the first that passes; all where none does
abbrev pub passed_over : List (List ℤ) → Signing → ℕ
passed_over ys (signing.Signed i) = i
passed_over ys (signing.Refused n) = length ys

module _ (m : Material) where
  -- one setter for each
  abbrev pub read_rule : ℕ → Material
  read_rule rule = record { rule = rule; set = m.set; exponents = m.exponents; key = m.key; message = m.message; masks = m.masks }

  abbrev pub read_set : Chosen → Material
  read_set c = record { rule = m.rule; set = c; exponents = m.exponents; key = m.key; message = m.message; masks = m.masks }

  abbrev pub read_exponents : List ℕ → Material
  read_exponents js = record { rule = m.rule; set = m.set; exponents = js; key = m.key; message = m.message; masks = m.masks }

  abbrev pub read_key : List ℕ → Material
  read_key key = record { rule = m.rule; set = m.set; exponents = m.exponents; key = key; message = m.message; masks = m.masks }

  abbrev pub read_message : List ℕ → Material
  read_message message = record { rule = m.rule; set = m.set; exponents = m.exponents; key = m.key; message = message; masks = m.masks }

  abbrev pub read_masks : List (List ℤ) → Material
  read_masks ys = record { rule = m.rule; set = m.set; exponents = m.exponents; key = m.key; message = m.message; masks = ys }

  abbrev pub params_in : Params
  params_in = m.set.params

  -- the call of the library's signing that a 06 is, with the key in its encoding
  abbrev pub call_with : Call
  call_with =
      record {
        rule = m.rule;
        key = m.set.byte ∷ m.key;
        exponents = m.exponents;
        masks = flatten m.masks;
        message = m.message;
        out = signature_room params_in;
      }

  -- how many masks are passed over before the first that passes, and so its number
  unfoldable pub first_passing : ℕ
  first_passing = passed_over m.masks (our_library.signs call_with)

  -- the signing of an accepted 06: the first mask that passes signs, and the bytes are those that its row at the front of the buffer prints
  abbrev pub signing_with : List ℕ → SigningRecord
  signing_with buffer = record { call = call_with; mask = first_passing; bytes = printed_signature buffer }

-- the set of a set byte
abbrev pub chosen_by : ℕ → Chosen
chosen_by b = record { byte = b; params = set_of b }

-- one more accepted command
unfoldable pub with_accepted : Material → ℕ → List ℕ → Material
with_accepted m b op =
    cond (eqb b 0x01) (read_masks (read_set m (chosen_by (get_or op 0 0))) [])
    (cond (eqb b 0x02) (read_exponents m (numbers 2 (params_in m).t op))
    (cond (eqb b 0x03) (read_key m op)
    (cond (eqb b 0x04) (read_masks m (m.masks ++ (mask_of (params_in m) op ∷ [])))
    (cond (eqb b 0x05) (read_message m op)
    (cond (eqb b 0x06) (read_masks m (drop (suc (first_passing m)) m.masks))
    (cond (eqb b 0x0B) (read_rule m (get_or op 0 0))
    m))))))

-- one more command: accepted; refused with 9, which only a 06 is, and which drops all masks; refused otherwise
unfoldable pub with_command : Material → Event → Material
with_command m e =
    cond (eqb e.number 0) (with_accepted m e.byte e.operand)
    (cond (eqb e.number none_passes) (read_masks m []) m)

-- an accepted command with byte b, and an accepted 06
abbrev pub is_accepted : ℕ → Event → Bool
is_accepted b e = eqb e.byte b && eqb e.number 0

abbrev pub is_signing : Event → Bool
is_signing = is_accepted 0x06

-- the accepted 06 commands in order, each as a signing that was made with its material
unfoldable pub signings_from : Material → List Event → List SigningRecord
signings_from m [] = []
signings_from m (e ∷ es) = cond (is_signing e) (signing_with m e.buffer ∷ []) [] ++ signings_from (with_command m e) es

unfoldable pub signings : List Event → List SigningRecord
signings es = signings_from no_material es
