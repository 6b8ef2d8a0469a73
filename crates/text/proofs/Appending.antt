-- Texts stored one behind another.
-- Assumes nothing.
use mathlib.Core.Path.{◌≡◌, refl, sym, ap, ◌∙◌}
use mathlib.Core.List.{List, [], ◌∷◌, ◌++◌}
use Prim.Native.Nat.{ℕ, suc, ◌+◌, ◌<◌}
use native.Mathlib.Nat.{add-zero, add-suc, suc-add}
use native.Mathlib.Numerals.{add-one}
use native.Mathlib.Omega.{arith}
use lib.ListN.{length, get_or, take, set, length-append}
use lib.Seq.{sets, take-suc}
use Rattle.text.specs.Text.{Appended}

-- stores one behind another, as one run of stores
sets-append : (l : List ℕ) (i : ℕ) (a b : List ℕ) → sets l i (a ++ b) ≡ sets (sets l i a) (i + length a) b
sets-append l i [] b = ap (λ (k : ℕ). sets l k b) (sym (add-zero i))
sets-append l i (x ∷ a) b =
    sets-append (set l i x) (suc i) a b
    ∙ ap (λ (k : ℕ). sets (sets (set l i x) (suc i) a) k b) (suc-add i (length a) ∙ sym (add-suc i (length a)))

-- nothing yet, and one text behind another
pub appended_none : (old : List ℕ) (at : ℕ) → Appended old at [] old at
appended_none old at = record { bytes = refl; end = omega arith }

pub appended_then : {old mid new a b : List ℕ} {at r s : ℕ} → Appended old at a mid r → Appended mid r b new s → Appended old at (a ++ b) new s
appended_then {old} {mid} {new} {a} {b} {at} {r} {s} p q = record {
  bytes =
      q.bytes ∙ ap (λ (m : List ℕ). sets m r b) p.bytes ∙ ap (λ (k : ℕ). sets (sets old at a) k b) p.end
      ∙ sym (sets-append old at a b);
  end = simp length-append (omega (arith, p.end, q.end));
}

-- the text of one element more of a list, whose text is that of its elements one behind another
module _ {A : Type 0} (text : List A → List ℕ) (joins : (xs ys : List A) → text (xs ++ ys) ≡ text xs ++ text ys) where
  pub appended_more : {old mid new : List ℕ} {at r s : ℕ} (l : List A) (i : ℕ) (d : A) → i < length l
      → Appended old at (text (take i l)) mid r → Appended mid r (text (get_or l i d ∷ [])) new s → Appended old at (text (take (i + 1) l)) new s
  appended_more l i d h p q = rw (add-one, take-suc l i d h, joins) (appended_then p q)
