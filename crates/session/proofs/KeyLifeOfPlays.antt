-- A key with a life, in the code's plays: of any plays of one file that the contracts of `open` and `play` allow, whatever row buffers they are lent, the
-- commands played and the session that the last play returned are as `KeyLife` says. For each loading of a key and while that key is held, signatures given
-- plus signatures left equal the number last granted plus those given before that grant, and what is left decides 17.
-- Assumes nothing.
use mathlib.Core.List.{List}
use Prim.Native.Nat.{ℕ}
use Rattle.session_rules.specs.Play.{opened}
use Rattle.session_rules.specs.KeyLife.{KeyLife}
use Rattle.session_rules.proofs.KeyLife.{key_life}
use Rattle.session.specs.Turns.{Turn, Turns, lent_by, last_session, turn_events}
use Rattle.session.proofs.TurnsByRules.{turns_by_rules, turns_after}

pub key_life_in_plays : (file : List ℕ) (ts : List Turn) → Turns opened file ts
    → KeyLife (turn_events opened file ts) (last_session opened ts).held
key_life_in_plays file ts h = rw (turns_by_rules file ts h, turns_after file ts h) (key_life file (lent_by ts))
