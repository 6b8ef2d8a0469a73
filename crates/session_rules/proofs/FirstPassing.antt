-- The first that passes, in sessions: for each accepted 06 of any list of plays of a file from a session just opened, the mask that signed is the first that
-- passes among the masks read from the commands played before it, those before it fail, the row prints how many they are and the signature, and the masks up
-- to and with it are gone from what the next 06 signs with. A 06 is refused with 9 only if none of them passes.
-- Assumes nothing.
use mathlib.Core.List.{List}
use Prim.Native.Nat.{ℕ}
use Rattle.session_rules.specs.Play.{Session, opened}
use Rattle.session_rules.specs.Plays.{Event, events, Material, no_material}
use Rattle.session_rules.specs.HeldIsRead.{Available, none_available}
use Rattle.session_rules.specs.FirstPassing.{EachSignsByFirst}
use Rattle.session_rules.proofs.Reaching.{kept_opened, plays_by}
use Rattle.session_rules.proofs.SigningRead.{signs_by_first}

pub first_passing_signs : (file : List ℕ) (buffers : List (List ℕ)) → EachSignsByFirst no_material (events file buffers)
unfolding events
first_passing_signs file buffers =
    plays_by file (λ (m : Material) (a : Available) (s : Session) (es : List Event) (t : Session). EachSignsByFirst m es)
    (λ m a s w. tt) (λ m a s w g buffer es t rest. (signs_by_first m a s w file buffer, rest))
    no_material none_available opened kept_opened buffers
