-- Every accepted 06 of a list of plays is an accepted signing of the library with its material, and its row prints the bytes of that signing.
-- Assumes nothing.
use mathlib.Core.Path.{◌≡◌, refl, sym, ap, ◌∙◌}
use mathlib.Core.Bool.{not, ◌&&◌}
use mathlib.Core.List.{List, [], ◌∷◌, ◌++◌}
use Prim.Native.Nat.{ℕ}
use lib.Dec.{T, eqb, eqb→eq}
use borrow.Author.Tests.{not-true}
use Rattle.algebra.specs.All.{all}
use Rattle.algebra.proofs.Test.{and_left, and_right, holds_true, true_holds, cond_by}
use Rattle.passign.specs.Hiding.{our_library, SigningRecord, Accepted, Every}
use Rattle.session_rules.specs.Commands.{Payload}
use Rattle.session_rules.specs.Rows.{row_text, at_front}
use Rattle.session_rules.specs.Play.{Session, opened, step}
use Rattle.session_rules.specs.Plays.{Event, events, printed_signature, is_signing, signings}
use Rattle.session_rules.specs.Plays.{Material, no_material, call_with, first_passing, signing_with, with_command, signings_from}
use Rattle.session_rules.specs.HeldIsRead.{Available, none_available}
use Rattle.session_rules.proofs.Rows.{printed_back}
use Rattle.session_rules.proofs.Signature.{signature_below}
use Rattle.session_rules.proofs.CommandFacts.{SignedWith, bytes_with}
use Rattle.session_rules.proofs.Reaching.{step_facts, kept_opened, row_event, plays_by}

-- an accepted 06, whose row stands at the front of the buffer
accepted_with : (t : Material) (ordinal byte number : ℕ) (x : Payload) → SignedWith t x → (buffer : List ℕ)
    → Accepted our_library (signing_with t (at_front (row_text ordinal byte number x) buffer))
accepted_with t ordinal byte number x w buffer = record {
  answer = w.answer;
  bytes =
      sym (ap (λ (y : Payload). printed_signature (at_front (row_text ordinal byte number y) buffer)) w.payload
      ∙ printed_back ordinal byte number (first_passing t) (bytes_with t) _ (signature_below (call_with t) w.answer));
}

-- the signings of a list of plays
pub accepted_each : (file : List ℕ) (buffers : List (List ℕ)) → Every (Accepted our_library) (signings (events file buffers))
unfolding signings signings_from events
accepted_each file buffers =
    plays_by file (λ (m : Material) (a : Available) (s : Session) (es : List Event) (t : Session). Every (Accepted our_library) (signings_from m es))
    (λ m a s w. tt)
    (λ m a s w g buffer es t rest.
    let x = step s file in
    cond_by
    (λ (l : List SigningRecord). Every (Accepted our_library) (l ++ signings_from (with_command m (row_event s file buffer)) es))
    (eqb x.byte 6 && eqb x.number 0)
    (λ y.
    let six = eqb→eq x.byte 6 (and_left (eqb x.byte 6) (eqb x.number 0) (true_holds y)) in
    let zero = eqb→eq x.number 0 (and_right (eqb x.byte 6) (eqb x.number 0) (true_holds y)) in
    (accepted_with m x.ordinal x.byte x.number x.payload ((step_facts m a s w file).signs six zero) buffer, rest))
    (λ y. rest))
    no_material none_available opened kept_opened buffers

-- where no 06 is accepted there is none
pub none_signed : (es : List Event) (t : Material) → T (all (λ (e : Event). not (is_signing e)) es) → signings_from t es ≡ []
unfolding signings_from
none_signed [] t n = refl
none_signed (e ∷ es) t n =
    let here = not-true (is_signing e) (holds_true (not (is_signing e)) (and_left (not (is_signing e)) _ n)) in
    rw here (none_signed es (with_command t e) (and_right (not (is_signing e)) _ n))
