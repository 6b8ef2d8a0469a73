-- The limits by name, as src/ has them: what arrays have room for, and what document 01 lets a caller hand over.
-- Assumes nothing.
use Rattle.std.specs.Prelude.{ℕ}

-- N, t and b of a set, at most
abbrev pub max_n : ℕ
max_n = 1153

abbrev pub max_t : ℕ
max_t = 1152

abbrev pub max_b : ℕ
max_b = 64

-- masks held, at most
abbrev pub max_masks : ℕ
max_masks = 8

-- the bytes of a row buffer
abbrev pub row_room : ℕ
row_room = 16384

-- the bytes of a session file and of a message, at most
abbrev pub max_file : ℕ
max_file = 65536

abbrev pub max_message : ℕ
max_message = 65535
