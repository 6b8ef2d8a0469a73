-- What is held is what was played: after any list of plays of a file from a session just opened, whatever row buffers they are lent, the session holds what
-- document 01 reads from the commands played, and nothing else. Set, points, key and message are the operands of the last accepted 01, 02, 03 and 05, each
-- held until a later accepted command forgets it (01 all else, 02 key and public evaluations, 08 the key). The public evaluations are those of
-- the key of an accepted 03 or those of an accepted 08, whichever was last. The signatures left to the key are the 65535 of its 03, or those that an accepted
-- 0A since granted last, less one for each accepted 06 since. The masks are those of each accepted 04 since that 01, less those that an earlier 06 dropped.
-- The rule in force is that of the last accepted 0B, 1 before any.
-- Assumes nothing.
use mathlib.Core.List.{List}
use Prim.Native.Nat.{ℕ}
use Rattle.session_rules.specs.Play.{opened}
use Rattle.session_rules.specs.Plays.{events, no_material}
use Rattle.session_rules.specs.HeldIsRead.{material_read, none_available, available_after, HeldIsRead}
use Rattle.session_rules.specs.After.{after}
use Rattle.session_rules.proofs.Kept.{held_read}
use Rattle.session_rules.proofs.Reaching.{kept_after}

pub held_is_read : (file : List ℕ) (buffers : List (List ℕ))
    → HeldIsRead (material_read (events file buffers)) (available_after no_material none_available (events file buffers)) (after opened file buffers).held
held_is_read file buffers = held_read (kept_after file buffers)
