-- The code counts ordinals from 1: after any plays of one file that the contracts of `open` and `play` allow, the next row's ordinal is the number of
-- commands played and one more. Only where the first play finds the file too long or not tagged its row has ordinal 0 and byte 00, with refusal 1 or 15.
-- Assumes nothing.
use mathlib.Core.Path.{◌≡◌, sym, ap, ◌∙◌}
use mathlib.Core.Bool.{false}
use mathlib.Core.List.{List}
use Prim.Native.Nat.{ℕ}
use lib.ListN.{length}
use Rattle.session_rules.specs.Play.{Session, opened, step}
use Rattle.session_rules.specs.Ordinals.{Numbered}
use Rattle.session_rules.proofs.Ordinals.{ordinals_count}
use Rattle.session.specs.Turns.{Turn, Turns, lent_by, last_session, turn_events}
use Rattle.session.proofs.TurnsByRules.{turns_by_rules, turns_after}

pub ordinals_count_in_plays : (file : List ℕ) (ts : List Turn) → Turns opened file ts
    → (last_session opened ts).ended ≡ false
    → Numbered (last_session opened ts) file (length (turn_events opened file ts)) (step (last_session opened ts) file)
ordinals_count_in_plays file ts h goes =
    let last = turns_after file ts h in
    rw (last, turns_by_rules file ts h) (ordinals_count file (lent_by ts) (sym (ap (λ (r : Session). r.ended) last) ∙ goes))
