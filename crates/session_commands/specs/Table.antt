-- The bytes of the commands.
-- Assumes nothing.
use Rattle.std.specs.Prelude.{ℕ}
use Rattle.session_commands.specs.declared.command.Command.{Command}
use Rattle.session_commands.specs.declared.command.Command.TheVariants as command

-- the byte of a command in a session file
abbrev pub byte_of : Command → ℕ
byte_of command.ChooseSet = 0x01
byte_of command.LoadExponents = 0x02
byte_of command.LoadKey = 0x03
byte_of command.LoadMask = 0x04
byte_of command.LoadMessage = 0x05
byte_of command.Sign = 0x06
byte_of command.Check = 0x07
byte_of command.LoadEvaluations = 0x08
byte_of command.Grant = 0x0A
byte_of command.ChooseRule = 0x0B
