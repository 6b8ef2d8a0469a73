-- A list of plays of the code: each is handed the session that the last left, and each meets the contract of `play`.
-- Assumes nothing.
use Rattle.std.specs.Prelude.{◌≡◌, List, [], ◌∷◌, ◌++◌, map, ℕ}
use Rattle.session_rules.specs.Play.{Session, Outcome, play}
use Rattle.session_rules.specs.Plays.{Event, event_of}
use Rattle.session.specs.declared.PlayAnswer.{PlayAnswer}
use Rattle.session.specs.Played.{outcome_of}

-- a play: the row buffer that it was lent, what it answered, and the session and the row buffer after it
pub record Turn : Type 0 where
  pub buffer_before : List ℕ
  pub answer : PlayAnswer
  pub session : Session
  pub buffer_after : List ℕ

-- all that it gave
abbrev pub given : Turn → Outcome
given t = outcome_of t.answer t.session t.buffer_after

-- each turn is one that the contract of `play` allows of the session before it
abbrev pub Turns : Session → List ℕ → List Turn → Type 0
Turns s file [] = Unit {0}
Turns s file (t ∷ ts) = (given t ≡ play s file t.buffer_before) × Turns t.session file ts

-- the row buffers that the turns were lent
abbrev pub lent_by : List Turn → List (List ℕ)
lent_by ts = map (λ (t : Turn). t.buffer_before) ts

-- the session that the last turn left
unfoldable pub last_session : Session → List Turn → Session
last_session s [] = s
last_session s (t ∷ ts) = last_session t.session ts

-- the commands that the turns played, with the answers that they gave and the row buffers that they left
unfoldable pub turn_events : Session → List ℕ → List Turn → List Event
turn_events s file [] = []
turn_events s file (t ∷ ts) = event_of s file (given t) ++ turn_events t.session file ts
