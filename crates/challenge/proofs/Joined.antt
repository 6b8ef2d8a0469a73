-- Lists of one size that stand one after the other: element j of list i.
-- Assumes nothing.
use mathlib.Core.Path.{◌≡◌, ap, ◌∙◌}
use mathlib.Core.List.{List, [], ◌∷◌, ◌++◌, flatten}
use Prim.Native.Nat.{ℕ, zero, suc, ◌+◌, ◌*◌, ◌<◌, zero-le, suc-le-suc}
use native.Mathlib.Nat.{le_of_suc-le-suc, not-suc-le-zero, zero-mul, zero-add, suc-mul}
use native.Mathlib.Omega.{arith}
use lib.ListN.{length, get_or, get_or-append}
use lib.Seq.{get_or-append-add}

module _ {A : Type 0} (n : ℕ) where
  pub joined_at : (ls : List (List A)) (none : List A) (d : A) → ((k : ℕ) → k < length ls → length (get_or ls k []) ≡ n)
      → (i j : ℕ) → i < length ls → j < n → get_or (flatten ls) (i * n + j) d ≡ get_or (get_or ls i none) j d
  unfolding flatten
  joined_at [] none d h i j l m = absurd (not-suc-le-zero l)
  joined_at (x ∷ ls) none d h zero j l m = rw (zero-mul n, zero-add j) (get_or-append x (flatten ls) d j (omega (arith, h 0 (suc-le-suc zero-le))))
  joined_at (x ∷ ls) none d h (suc i) j l m =
      let e : suc i * n + j ≡ length x + (i * n + j) = omega (arith, suc-mul i n, h 0 (suc-le-suc zero-le)) in
      ap (λ (k : ℕ). get_or (x ++ flatten ls) k d) e ∙ get_or-append-add x (flatten ls) (i * n + j) d
      ∙ joined_at ls none d (λ k s. h (suc k) (suc-le-suc s)) i j (le_of_suc-le-suc l) m
