-- The code takes every file to its end: any plays that the contracts of `open` and `play` allow, with row buffers of 16,384 bytes and as many as the file has
-- bytes and one more, end the session.
-- Assumes nothing.
use mathlib.Core.Path.{◌≡◌, ap, ◌∙◌}
use mathlib.Core.Bool.{true}
use mathlib.Core.List.{List}
use Prim.Native.Nat.{ℕ, ◌+◌, ◌≤◌}
use lib.Dec.{T}
use lib.ListN.{length, length-map}
use Rattle.algebra.specs.All.{all}
use Rattle.session_rules.specs.Play.{Session, opened, is_right}
use Rattle.session_rules.proofs.EveryFileEnds.{every_file_ends}
use Rattle.session.specs.Turns.{Turn, Turns, lent_by, last_session}
use Rattle.session.proofs.TurnsByRules.{turns_after}

pub every_file_ends_in_plays : (file : List ℕ) (ts : List Turn) → Turns opened file ts
    → T (all is_right (lent_by ts)) → length file + 1 ≤ length ts → (last_session opened ts).ended ≡ true
every_file_ends_in_plays file ts h right enough =
    ap (λ (r : Session). r.ended) (turns_after file ts h)
    ∙ every_file_ends file (lent_by ts) right (rw (length-map ts (λ (t : Turn). t.buffer_before)) enough)
