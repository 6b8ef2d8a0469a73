-- What the rows of accepted commands print, by what is read from the commands before them.
-- Assumes nothing.
use Rattle.std.specs.Prelude.{◌≡◌, List, [], ◌∷◌, ◌++◌, ℕ}
use Rattle.session_rules.specs.Commands.{Payload}
use Rattle.session_rules.specs.Rows.{row_text}
use Rattle.session_rules.specs.Plays.{Event, Material, with_command}
use Rattle.session_rules.specs.HeldIsRead.{Available, available_with}

-- the row of an accepted command with byte b, which adds x
pub record PrintsRow (b : ℕ) (x : Payload) (e : Event) : Type 0 where
  pub ordinal : ℕ
  pub behind : List ℕ
  pub row : e.buffer ≡ row_text ordinal b 0 x ++ behind

-- each accepted command with byte b of a list adds what `adds` gives of its operand and of what is read from the commands before it
abbrev pub EachPrints : ℕ → (Material → Available → List ℕ → Payload) → Material → Available → List Event → Type 0
EachPrints b adds m a [] = Unit {0}
EachPrints b adds m a (e ∷ es) =
    (e.byte ≡ b → e.number ≡ 0 → PrintsRow b (adds m a e.operand) e) × EachPrints b adds (with_command m e) (available_with m a e) es
