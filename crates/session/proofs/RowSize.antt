-- The size of a row, by the place of the first line feed.
-- Assumes nothing.
use mathlib.Core.Path.{◌≡◌, refl, ap}
use mathlib.Core.List.{List, [], ◌∷◌}
use Prim.Native.Nat.{ℕ, zero, suc, ◌+◌, ◌<◌}
use native.Mathlib.Omega.{arith}
use borrow.Author.Tests.{eq-eqb, ne_eqb}
use lib.ListN.{length, get_or}
use Rattle.text.specs.Text.{line_feed}
use Rattle.session_rules.specs.Rows.{row_size}

-- no line feed before place i
abbrev Clear : List ℕ → ℕ → Type 0
Clear l i = (k : ℕ) → k < i → get_or l k 0 ≡ line_feed → ⊥

behind : (x : ℕ) (l : List ℕ) (i : ℕ) → Clear (x ∷ l) (suc i) → Clear l i
behind x l i f k h = f (suc k) (omega (arith, h))

first : (x : ℕ) (l : List ℕ) (i : ℕ) → Clear (x ∷ l) (suc i) → row_size (x ∷ l) ≡ suc (row_size l)
unfolding row_size
first x l i f = rw (ne_eqb x line_feed (f 0 (omega arith)))

pub size_with : (l : List ℕ) (i : ℕ) → i < length l → get_or l i 0 ≡ line_feed → Clear l i → i + 1 ≡ row_size l
unfolding row_size
size_with [] i h e f = absurd (omega (arith, h))
size_with (x ∷ xs) zero h e f = rw (eq-eqb x line_feed e)
size_with (x ∷ xs) (suc i) h e f = rw (first x xs i f, ← size_with xs i (omega (arith, h)) e (behind x xs i f)) (omega arith)

pub size_without : (l : List ℕ) → Clear l (length l) → length l ≡ row_size l
unfolding row_size
size_without [] f = refl
size_without (x ∷ xs) f = rw (first x xs (length xs) f) (ap suc (size_without xs (behind x xs (length xs) f)))
