-- Sessions that plays lead to: what is held is what is read, after any list of plays.
-- Assumes nothing.
use mathlib.Core.Path.{◌≡◌, refl, ◌∙◌}
use mathlib.Core.Bool.{false, true≢false}
use mathlib.Core.List.{List, [], ◌∷◌, ◌++◌}
use Prim.Native.Nat.{ℕ, ◌≤◌}
use native.Mathlib.Omega.{arith}
use lib.ListN.{length}
use Rattle.session_rules.specs.Commands.{Result}
use Rattle.session_rules.specs.Play.{Session, opened, Step, byte_due, size_due, operand_due, step, Outcome, row_of}
use Rattle.session_rules.specs.Rows.{at_front}
use Rattle.session_rules.specs.Plays.{Event, event_of, events_from, events, Material, no_material, with_accepted, with_command}
use Rattle.session_rules.specs.HeldIsRead.{material_after, material_read, Available, none_available, available_with_accepted, available_with, available_after}
use Rattle.session_rules.specs.After.{after, Reachable, just_opened, once_more}
use Rattle.session_rules.proofs.Rows.{length_row}
use Rattle.session_rules.proofs.Kept.{gone, KeptAll, only_set_lem}
use Rattle.session_rules.proofs.CommandFacts.{CommandFacts, refused_facts, accepted_facts, command_facts}
use Rattle.session_rules.proofs.Cases.{place_due, operand_whole, step_by}
use Rattle.session_rules.proofs.After.{play_by}

pub kept_opened : KeptAll no_material none_available opened.held
unfolding opened no_material none_available
kept_opened = only_set_lem no_material [] 0 (refl, record { known = refl }) gone

-- ---- one play that writes a row, whatever the file

abbrev result_of : Step → Result
result_of x = record { number = x.number; held = x.session.held; payload = x.payload }

abbrev pub StepFacts : Material → Available → Session → Step → Type 0
StepFacts m a s x = CommandFacts m a s.held x.byte x.operand x.session.ended (result_of x)

module _ (m : Material) (a : Available) (s : Session) (w : KeptAll m a s.held) (file : List ℕ) where
  pub step_facts : StepFacts m a s (step s file)
  unfolding with_command with_accepted available_with available_with_accepted
  step_facts =
      step_by s file (StepFacts m a s)
      (λ n e f b. refused_facts m a s.held w [] 0 n e.refusal e.no_nine e.ending (λ six goes. absurd (true≢false (e.ending ∙ goes))))
      (λ n e c. refused_facts m a s.held w [] _ n e.refusal e.no_nine e.ending (λ six goes. absurd (true≢false (e.ending ∙ goes))))
      (λ c z. accepted_facts m a s.held w [] 0 refl refl refl (λ three. absurd (omega arith)) (omega arith) w)
      (λ g.
      let at = place_due s in
      let d = g.allowed in
      let size = size_due file at s.held.set in
      command_facts m a s.held w (operand_due file at size) (byte_due file at) d.known g.nonzero d.needs (operand_whole file at size d.whole))

  pub row_short : length (row_of (step s file)) ≤ 16384
  row_short = let x = step s file in length_row x.ordinal x.byte x.number x.payload step_facts.short

-- the command that a play plays, where it writes a row
abbrev pub row_event : Session → List ℕ → List ℕ → Event
row_event s file buffer =
    let x = step s file in
    record { byte = x.byte; operand = x.operand; number = x.number; buffer = at_front (row_of x) buffer }

-- what is kept after it
kept_row : (m : Material) (a : Available) (s : Session) → KeptAll m a s.held → (file buffer : List ℕ)
    → KeptAll (with_command m (row_event s file buffer)) (available_with m a (row_event s file buffer)) (step s file).session.held
unfolding with_command available_with
kept_row m a s w file buffer = (step_facts m a s w file).keeps

-- ---- any list of plays: a claim about the session before them, the commands played and the session after them, by the plays that write a row

module _ (file : List ℕ) (C : Material → Available → Session → List Event → Session → Type 0)
    (none : (m : Material) (a : Available) (s : Session) → KeptAll m a s.held → C m a s [] s)
    (more : (m : Material) (a : Available) (s : Session) → KeptAll m a s.held → s.ended ≡ false → (buffer : List ℕ) (es : List Event) (t : Session)
    → C (with_command m (row_event s file buffer)) (available_with m a (row_event s file buffer)) (step s file).session es t
    → C m a s (row_event s file buffer ∷ es) t) where
  pub plays_by : (m : Material) (a : Available) (s : Session) → KeptAll m a s.held → (buffers : List (List ℕ))
      → C m a s (events_from s file buffers) (after s file buffers)
  unfolding events_from after
  plays_by m a s w [] = none m a s w
  plays_by m a s w (buffer ∷ buffers) =
      play_by s file buffer
      (λ (o : Outcome). C m a s (event_of s file o ++ events_from o.session file buffers) (after o.session file buffers))
      (λ e. plays_by m a s w buffers) (λ e. plays_by m a s w buffers)
      (λ e g. more m a s w g buffer _ _ (plays_by (with_command m (row_event s file buffer)) (available_with m a (row_event s file buffer)) (step s file).session (kept_row m a s w file buffer) buffers))

pub kept_after : (file : List ℕ) (buffers : List (List ℕ))
    → KeptAll (material_read (events file buffers)) (available_after no_material none_available (events file buffers)) (after opened file buffers).held
unfolding material_after available_after events
kept_after file buffers =
    plays_by file
    (λ (m : Material) (a : Available) (s : Session) (es : List Event) (t : Session). KeptAll (material_after m es) (available_after m a es) t.held)
    (λ m a s w. w) (λ m a s w g buffer es t h. h) no_material none_available opened kept_opened buffers

-- ---- any session

pub kept_reachable : {s : Session} → Reachable s → (m : Material) × ((a : Available) × KeptAll m a s.held)
kept_reachable just_opened = (no_material, (none_available, kept_opened))
kept_reachable (once_more {s = s} r file buffer) =
    play_by s file buffer (λ (o : Outcome). (m : Material) × ((a : Available) × KeptAll m a o.session.held))
    (λ e. kept_reachable r) (λ e. kept_reachable r)
    (λ e g. let (m, (a, w)) = kept_reachable r in (_, (_, kept_row m a s w file buffer)))
