-- The entries `sign` and `check` look up the set first; in it they do what is defined over any set.
-- Assumes nothing.
use mathlib.Core.Path.{◌≡◌, refl, sym, ◌∙◌}
use mathlib.Core.Bool.{true, false}
use mathlib.Core.List.{List, ◌∷◌}
use Prim.Native.Nat.{ℕ, suc}
use native.Mathlib.Omega.{arith}
use lib.IntN.{ℤ}
use lib.ListN.{length}
use borrow.Author.Tests.{eq-eqb, ne_eqb}
use Rattle.parameters.specs.Sets.{is_set, set_of}
use Rattle.challenge.specs.Draw.{draw_challenge}
use Rattle.refusal.specs.Signing as signing
use Rattle.refusal.specs.Answer.{set_in, is_long}
use Rattle.signing.specs.Sign.{sign_answer_in, sign_written_in, sign_answer, sign_written}
use Rattle.signing.proofs.Entry.{Known, known_iff, answer_entry, written_entry}
use Rattle.checking.specs.Check.{check_refusal, check_answer_in, check_answer}
use Rattle.passign.proofs.FirstPassing.{entry_first_signs}

-- what `sign` accepts is accepted in the set of its key
module _ (rule : ℕ) (key exponents : List ℕ) (masks : List ℤ) (message out : List ℕ) where
  pub record SignedInSet (i : ℕ) : Type 0 where
    pub known : Known key message
    pub answer : sign_answer_in draw_challenge rule (set_in key) key exponents masks message out ≡ signing.Signed i
    pub written : sign_written rule key exponents masks message out ≡ sign_written_in draw_challenge rule (set_in key) key exponents masks message out

  pub sign_entry : {i : ℕ} → sign_answer rule key exponents masks message out ≡ signing.Signed i → SignedInSet i
  sign_entry {i} accepted =
      let k = ((known_iff rule key exponents masks message out).0 ((entry_first_signs rule key exponents masks message out i).0 accepted).0).0 in
      record {
        known = k;
        answer = sym (answer_entry rule key exponents masks message out k) ∙ accepted;
        written = written_entry rule key exponents masks message out k;
      }

-- a check of encodings of one set
pub check_entry : (rule s : ℕ) (key message signature : List ℕ) → is_long message ≡ false → is_set s ≡ true
    → check_answer rule (s ∷ key) message (s ∷ signature) ≡ check_answer_in draw_challenge rule (set_of s) (s ∷ key) message (s ∷ signature)
unfolding check_answer check_refusal check_answer_in
check_entry rule s key message signature short known =
    rw (short, ne_eqb (suc (length signature)) 0 (λ e. omega arith), ne_eqb (suc (length key)) 0 (λ e. omega arith), known, eq-eqb s s refl)
