-- The sizes of a session's arrays by name, as src/ has them, beside the limits of crate parameters.
-- Assumes nothing.
use Rattle.std.specs.Prelude.{ℕ}

-- the numbers of all masks that may be held: eight of 1,153
abbrev pub mask_room : ℕ
mask_room = 9224

-- document 01: a message of 64 bytes
abbrev pub message_size : ℕ
message_size = 64

-- the bytes of the largest signature that fits the limits
abbrev pub max_signature : ℕ
max_signature = 2435
