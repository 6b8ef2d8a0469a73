-- The row of a play, by its parts.
-- Assumes nothing.
use Rattle.std.specs.Prelude.{List, [], ◌∷◌, ◌++◌, ℕ}
use Rattle.text.specs.Text.{decimal, hex, spaced}
use Rattle.refusal.specs.Meaning.{number_in}
use Rattle.session_rules.specs.Held.{Held}
use Rattle.session_rules.specs.Rows.{row_text}
use Rattle.session_commands.specs.Outcome.{payload_in}
use Rattle.session.specs.declared.Row.{Row}

-- a row up to what an accepted command adds: ordinal, byte, number
unfoldable pub row_head : ℕ → ℕ → ℕ → List ℕ
row_head ordinal byte number = decimal ordinal ++ (spaced (hex (byte ∷ [])) ++ spaced (decimal number))

-- the whole row, with what is held and the bytes of a signature
abbrev pub row_for : Row → Held → List ℕ → List ℕ
row_for r h bytes = row_text r.ordinal r.byte (number_in r.outcome) (payload_in r.outcome h bytes)
