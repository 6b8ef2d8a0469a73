-- Document 01, "Refusals, by who can cause them", and document 02: the refusal numbers by name. 0 is no refusal.
-- Assumes nothing.
use Rattle.std.specs.Prelude.{ℕ}

-- a lent list, pool or result buffer of the wrong length, a message or session too long
abbrev pub wrong_length : ℕ
wrong_length = 1

-- set not 0..4, or sets that differ
abbrev pub wrong_set : ℕ
wrong_set = 2

-- command 02 to 08 or 0A before an accepted 01
abbrev pub no_set : ℕ
no_set = 3

-- exponents out of 1..N-1 or not increasing
abbrev pub wrong_exponents : ℕ
wrong_exponents = 4

-- key value not allowed
abbrev pub wrong_key : ℕ
wrong_key = 5

-- mask coefficient outside -k..k
abbrev pub wrong_mask : ℕ
wrong_mask = 6

-- evaluation not below q
abbrev pub wrong_evaluation : ℕ
wrong_evaluation = 7

-- eight masks already held
abbrev pub too_many_masks : ℕ
too_many_masks = 8

-- no mask held, or none passes
abbrev pub none_passes : ℕ
none_passes = 9

-- something needed is not held
abbrev pub not_held : ℕ
not_held = 10

-- pool spent: fewer than b indices kept in all of it
abbrev pub pool_spent : ℕ
pool_spent = 11

-- challenge index not below N, or not increasing
abbrev pub wrong_entries : ℕ
wrong_entries = 12

-- file ends before 00 or inside an operand
abbrev pub file_ends : ℕ
file_ends = 13

-- unknown command
abbrev pub unknown_command : ℕ
unknown_command = 14

-- tag wrong or short
abbrev pub wrong_tag : ℕ
wrong_tag = 15

-- bytes after 00
abbrev pub bytes_after_end : ℕ
bytes_after_end = 16

-- the held key has no signature left
abbrev pub none_left : ℕ
none_left = 17

-- rule of hashing not 1 or 2
abbrev pub wrong_rule : ℕ
wrong_rule = 18
