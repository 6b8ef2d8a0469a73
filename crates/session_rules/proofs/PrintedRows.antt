-- Rows of accepted commands: a fact about what a command adds, of each play that writes a row, holds of the rows of any list of plays.
-- Assumes nothing.
use mathlib.Core.Path.{◌≡◌}
use mathlib.Core.List.{List}
use Prim.Native.Nat.{ℕ}
use lib.ListN.{length, drop}
use Rattle.session_rules.specs.Commands.{Payload}
use Rattle.session_rules.specs.Play.{Session, opened, Step, step, row_of}
use Rattle.session_rules.specs.Plays.{Event, events, Material, no_material}
use Rattle.session_rules.specs.HeldIsRead.{Available, none_available}
use Rattle.session_rules.specs.PrintedRows.{EachPrints}
use Rattle.session_rules.proofs.Reaching.{StepFacts, step_facts, kept_opened, plays_by}

module _ (b : ℕ) (adds : Material → Available → List ℕ → Payload)
    (fact : (m : Material) (a : Available) (s : Session) (x : Step) → StepFacts m a s x → x.byte ≡ b → x.number ≡ 0
    → x.payload ≡ adds m a x.operand) where
  pub printed_rows : (file : List ℕ) (buffers : List (List ℕ)) → EachPrints b adds no_material none_available (events file buffers)
  unfolding events
  printed_rows file buffers =
      plays_by file (λ (m : Material) (a : Available) (s : Session) (es : List Event) (t : Session). EachPrints b adds m a es)
      (λ m a s w. tt)
      (λ m a s w g buffer es t rest. (
        λ is zero. record {
          ordinal = (step s file).ordinal;
          behind = drop (length (row_of (step s file))) buffer;
          row = rw (fact m a s (step s file) (step_facts m a s w file) is zero, is, zero);
        },
        rest,
      ))
      no_material none_available opened kept_opened buffers
