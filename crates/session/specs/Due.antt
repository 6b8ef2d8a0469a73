-- The command due, from its byte and what is behind it.
-- Assumes nothing.
use Rattle.std.specs.Prelude.{not, cond, ltb, ℕ}
use Rattle.std.proofs.Math.Option.{Option}
use Rattle.refusal.specs.Numbers.{no_set, file_ends, unknown_command}
use Rattle.session_rules.specs.Held.{Chosen, params_of}
use Rattle.session_rules.specs.CommandTable.{is_known, command_of}
use Rattle.session_rules.specs.Play.{lacks_set}

-- the size of its operand, in the set in force
abbrev pub operand_size : ℕ → Option Chosen → ℕ
operand_size byte set = (command_of byte).size (params_of set)

-- the refusal that ends the session, or 0, where so many bytes are behind it: 14, 3, and 13 inside the operand
abbrev pub refusal_behind : ℕ → ℕ → Option Chosen → ℕ
refusal_behind byte behind set =
    cond (not (is_known byte)) unknown_command
    (cond (lacks_set byte set) no_set
    (cond (ltb behind (operand_size byte set)) file_ends 0))
