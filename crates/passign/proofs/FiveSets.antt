-- The five sets of document 01, with the way to draw of any rule, have all that the theorems on bytes ask.
-- Assumes nothing.
use Prim.Native.Nat.{ℕ, ◌<◌}
use Rattle.parameters.specs.Sets.{set_of}
use Rattle.parameters.proofs.Sound.{set_sound, set_fitting}
use Rattle.challenge.specs.Draw.{draw_challenge}
use Rattle.challenge.proofs.Challenge.{challenge_sparse}
use Rattle.passign.specs.Hiding.{Encodable}

pub set_encodable : (rule s : ℕ) → s < 5 → Encodable (draw_challenge rule) (set_of s)
set_encodable rule s h = record { sound = set_sound s h; fitting = set_fitting s h; draws = challenge_sparse rule (set_of s) }
