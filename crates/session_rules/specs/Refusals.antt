-- Document 01, "Refusals, by who can cause them": what a play that writes a row leaves and changes, and what one without a row leaves.
-- Assumes nothing.
use Rattle.std.specs.Prelude.{◌≡◌, Bool, false, ◌||◌, ◌&&◌, cond, List, [], ◌++◌, ℕ, ◌+◌, ◌≤◌, ◌<◌, leb, eqb, length, drop}
use Rattle.refusal.specs.Numbers.{none_passes}
use Rattle.session_rules.specs.Held.{with_masks}
use Rattle.session_rules.specs.Commands.{nothing}
use Rattle.session_rules.specs.Play.{Session, step, Outcome, row_of}

-- "Numbers 1, 3, 13, 14, 15, 16 end the session; others go on"
abbrev pub is_ending : ℕ → Bool
is_ending n = eqb n 1 || (eqb n 3 || (leb 13 n && leb n 16))

-- a play that wrote a row with number n
pub record RowWritten (s : Session) (file buffer : List ℕ) (n : ℕ) (o : Outcome) : Type 0 where
  -- the row prints the number that is answered
  pub number : (step s file).number ≡ n
  -- a refusal that ends the session leaves all else; any other moves the place as `forward` says, counts its row and leaves what is held, save that 9
  -- drops all masks
  pub rest : (n ≡ 0 → ⊥) → o.session ≡ record {
    ended = is_ending n;
    place = cond (is_ending n) s.place o.session.place;
    rows = cond (is_ending n) s.rows (s.rows + 1);
    held = cond (eqb n none_passes) (with_masks s.held []) s.held;
  }
  -- a row that does not end the session moves the place forward, past a command that lies in the file
  pub forward : o.session.ended ≡ false → (s.place < o.session.place) × (o.session.place ≤ length file)
  -- a refusal has its number alone
  pub alone : (n ≡ 0 → ⊥) → (step s file).payload ≡ nothing
  -- an accepted command ends the session just where it is 00
  pub accepted_ends : n ≡ 0 → o.session.ended ≡ eqb (step s file).byte 0
  -- the buffer is the row and the bytes that were behind it
  pub buffer_is : o.buffer ≡ row_of (step s file) ++ drop (length (row_of (step s file))) buffer
  pub row_fits : length (row_of (step s file)) ≤ length buffer
  pub same_length : length o.buffer ≡ length buffer
