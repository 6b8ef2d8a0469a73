-- Document 01, "The session file": the commands played are the file. What was read of it by commands that go on, where each of them ends, and which byte the
-- row has that ends the session.
-- Assumes nothing.
use Rattle.std.specs.Prelude.{◌≡◌, true, false, cond, List, [], ◌∷◌, ◌++◌, ℕ, ltb, length, get_or, take}
use Rattle.session_rules.specs.CommandTable.{command_of}
use Rattle.session_rules.specs.Play.{Session, opened}
use Rattle.session_rules.specs.Plays.{Event, Material, no_material, params_in, with_command}
use Rattle.session_rules.specs.Ordinals.{is_before_first}
use Rattle.session_rules.specs.Refusals.{is_ending}

-- hex 50 53 47 31
abbrev pub tag : List ℕ
tag = 0x50 ∷ 0x53 ∷ 0x47 ∷ 0x31 ∷ []

-- byte and operand of each command, in order
abbrev pub command_bytes : List Event → List ℕ
command_bytes [] = []
command_bytes (e ∷ es) = e.byte ∷ (e.operand ++ command_bytes es)

-- the tag, and the commands behind it
abbrev pub behind_tag : List Event → List ℕ
behind_tag es = tag ++ command_bytes es

-- what commands that go on have read: nothing before the first of them
abbrev pub bytes_read : List Event → List ℕ
bytes_read [] = []
bytes_read (e ∷ es) = behind_tag (e ∷ es)

-- a row that ends the session behind these commands: they are the file up to a place, the row's byte is the file's byte there, or 00 where the file
-- ends there, and it has no operand
pub record EndingRow (file : List ℕ) (before : List Event) (e : Event) : Type 0 where
  pub read : take (length (behind_tag before)) file ≡ behind_tag before
  pub byte : e.byte ≡ get_or file (length (behind_tag before)) 0
  pub operand : e.operand ≡ []

-- a row before the first command, with 1 where the file is too long, else 15: byte 00, and nothing was read
pub record EarlyRow (file : List ℕ) (before : List Event) (e : Event) : Type 0 where
  pub alone : before ≡ []
  pub byte : e.byte ≡ 0
  pub operand : e.operand ≡ []
  pub number : e.number ≡ cond (ltb 65536 (length file)) 1 15

-- the last row of a session that has ended
pub record LastRow (file : List ℕ) (es : List Event) : Type 0 where
  pub before : List Event
  pub last : Event
  pub rows : es ≡ before ++ (last ∷ [])
  pub early : is_before_first opened file ≡ true → EarlyRow file before last
  pub behind : is_before_first opened file ≡ false → EndingRow file before last

-- the operand of a command that goes on has as many bytes as the table of the commands says, in the set read from the commands before it
abbrev pub IsSized : Material → Event → Type 0
IsSized m e = is_ending e.number ≡ false → (e.byte ≡ 0 → ⊥) → length e.operand ≡ (command_of e.byte).size (params_in m)

abbrev pub EachSized : Material → List Event → Type 0
EachSized m [] = Unit {0}
EachSized m (e ∷ es) = IsSized m e × EachSized (with_command m e) es

-- the commands es played from a session just opened, and the session s after them
pub record FilePlayed (file : List ℕ) (es : List Event) (s : Session) : Type 0 where
  -- as long as the session goes on, the commands are the file up to the place reached
  pub read : s.ended ≡ false → take s.place file ≡ bytes_read es
  pub place : s.ended ≡ false → s.place ≡ length (bytes_read es)
  pub ends : s.ended ≡ true → LastRow file es
  -- each command ends where the table says
  pub sized : EachSized no_material es
