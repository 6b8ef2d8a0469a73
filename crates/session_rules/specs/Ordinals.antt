-- Document 01: ordinals count from 1, and "Before the first command (1, 15) the row has ordinal 0 and byte 00".
-- Assumes nothing.
use Rattle.std.specs.Prelude.{◌≡◌, Bool, true, false, not, ◌&&◌, ◌||◌, cond, List, ℕ, ◌+◌, ltb, eqb, length}
use Rattle.session_rules.specs.Play.{Session, Step, is_tagged}

-- a play of session s is refused before the first command: it is the first play, and the file is too long or its tag is wrong or short
abbrev pub is_before_first : Session → List ℕ → Bool
is_before_first s file = eqb s.place 0 && (ltb 65536 (length file) || not (is_tagged file))

-- its row: ordinal 0, byte 00, and refusal 1 where the file is too long, else 15
pub record BeforeFirst (file : List ℕ) (x : Step) : Type 0 where
  pub ordinal : x.ordinal ≡ 0
  pub byte : x.byte ≡ 0
  pub number : x.number ≡ cond (ltb 65536 (length file)) 1 15

-- the row x of a play of session s, with so many rows before it: it stands before the first command just where the play is refused there, and
-- every other row has the next ordinal
pub record Numbered (s : Session) (file : List ℕ) (count : ℕ) (x : Step) : Type 0 where
  pub before : is_before_first s file ≡ true → BeforeFirst file x
  pub counted : is_before_first s file ≡ false → x.ordinal ≡ count + 1
