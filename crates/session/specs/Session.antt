-- What the fields of `Session` mean, and what is so of each session.
-- Assumes nothing.
use Rattle.std.specs.Prelude.{◌^◌, ◌<◌, ◌≤◌}
use Rattle.session_rules.specs.Play.{Session}
use Rattle.session.specs.declared.Session.TheInside.{Inside}

abbrev pub session_of : Inside → Session
session_of a = record { ended = a.ended; place = a.place; rows = a.rows; held = a.held }

-- a place is in a file, and each row that was counted is of a byte before it: so the next ordinal is never too large
pub record IsSession (a : Inside) : Type 0 where
  pub place : a.place < 2 ^ 63
  pub rows : a.rows ≤ a.place
