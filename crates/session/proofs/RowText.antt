-- The text of a row by its parts: a head, what an accepted command adds, and a line feed, at the front of the buffer.
-- Assumes nothing.
use mathlib.Core.Path.{◌≡◌, ◌∙◌}
use mathlib.Core.List.{List, [], ◌∷◌, ◌++◌, append_assoc, map}
use Prim.Native.Nat.{ℕ, ◌+◌, ◌≤◌, ◌<◌}
use native.Mathlib.Nat.{zero-add}
use native.Mathlib.Omega.{arith}
use lib.IntN.{ℤ}
use lib.ListN.{length, take, get_or}
use lib.Seq.{sets-eq}
use Rattle.std.proofs.lemmas.List.{map-append}
use Rattle.algebra.specs.Integer.{centre}
use Rattle.text.specs.Text.{line_feed, signed_decimal, spaced, spaced_integers, Appended}
use Rattle.text.proofs.Text.{integers_append, one_integer}
use Rattle.text.proofs.Appending.{appended_more}
use Rattle.session_rules.specs.Commands.{Payload}
use Rattle.session_rules.specs.Rows.{payload_text, row_text, at_front}
use Rattle.session.specs.Rows.{row_head}

pub row_text_lem : (ordinal byte number : ℕ) (x : Payload) → row_text ordinal byte number x ≡ row_head ordinal byte number ++ (payload_text x ++ (line_feed ∷ []))
unfolding row_head row_text
row_text_lem ordinal byte number x = simp append_assoc

pub at_front_lem : {old text new : List ℕ} {next : ℕ} → Appended old 0 text new next → next ≤ length old → new ≡ at_front text old
at_front_lem {old} {text} {new} w h = let f : 0 + length text ≤ length old = omega (arith, w.end) in w.bytes ∙ sets-eq text old 0 f ∙ rw (zero-add (length text))

-- evaluations in signed form, one more
module _ (q : ℕ) where
  abbrev signed : List ℕ → List ℤ
  signed vs = map (λ (v : ℕ). centre v q) vs

  joins : (xs ys : List ℕ) → spaced_integers (signed (xs ++ ys)) ≡ spaced_integers (signed xs) ++ spaced_integers (signed ys)
  joins xs ys = rw (map-append (λ (v : ℕ). centre v q) xs ys) (integers_append (signed xs) (signed ys))

  pub evaluations_more : {old mid new : List ℕ} {at r s : ℕ} (vs : List ℕ) (i : ℕ) → i < length vs
      → Appended old at (spaced_integers (signed (take i vs))) mid r → Appended mid r (spaced (signed_decimal (centre (get_or vs i 0) q))) new s
      → Appended old at (spaced_integers (signed (take (i + 1) vs))) new s
  evaluations_more vs i h p e = appended_more (λ (l : List ℕ). spaced_integers (signed l)) joins vs i 0 h p (rw (one_integer (centre (get_or vs i 0) q)) e)
