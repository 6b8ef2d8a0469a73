-- Any plays of the code, from a session just opened, are plays by the rules with the same row buffers: the commands played are the same, and the session
-- that the last play left is the session after them. So what session_rules proves of `events` and `after` (`every_file_ends`, `held_is_read`,
-- `ordinals_count`) holds of the code's plays and sessions.
-- Assumes nothing.
use mathlib.Core.Path.{◌≡◌, refl, ap, ap₂, ◌∙◌}
use mathlib.Core.List.{List, [], ◌∷◌, ◌++◌}
use Prim.Native.Nat.{ℕ}
use Rattle.session_rules.specs.Play.{Session, Outcome, opened}
use Rattle.session_rules.specs.Plays.{Event, event_of, events_from, events}
use Rattle.session_rules.specs.After.{after}
use Rattle.session.specs.Turns.{Turn, Turns, lent_by, last_session, turn_events}

by_rules : (s : Session) (file : List ℕ) (ts : List Turn) → Turns s file ts → turn_events s file ts ≡ events_from s file (lent_by ts)
unfolding turn_events events_from
by_rules s file [] h = refl
by_rules s file (t ∷ ts) h =
    ap₂ (λ (a b : List Event). a ++ b) (ap (event_of s file) h.0)
    (by_rules t.session file ts h.1 ∙ ap (λ (o : Outcome). events_from o.session file (lent_by ts)) h.0)

-- the commands played
pub turns_by_rules : (file : List ℕ) (ts : List Turn) → Turns opened file ts → turn_events opened file ts ≡ events file (lent_by ts)
unfolding events
turns_by_rules file ts h = by_rules opened file ts h

after_from : (s : Session) (file : List ℕ) (ts : List Turn) → Turns s file ts → last_session s ts ≡ after s file (lent_by ts)
unfolding last_session after
after_from s file [] h = refl
after_from s file (t ∷ ts) h = after_from t.session file ts h.1 ∙ ap (λ (o : Outcome). after o.session file (lent_by ts)) h.0

-- the session after them
pub turns_after : (file : List ℕ) (ts : List Turn) → Turns opened file ts → last_session opened ts ≡ after opened file (lent_by ts)
turns_after file ts h = after_from opened file ts h
