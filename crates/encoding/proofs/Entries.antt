-- A challenge and its entries, one coefficient a turn.
-- Assumes nothing.
use mathlib.Core.Path.{◌≡◌, refl, sym, ap, ◌∙◌}
use mathlib.Core.Bool.{Bool, true, false, cond}
use mathlib.Core.List.{List, [], ◌∷◌, ◌++◌}
use Prim.Native.Nat.{ℕ, suc, ◌+◌, ◌-◌, ◌<◌}
use native.Mathlib.Numerals.{add-one}
use native.Mathlib.Omega.{arith}
use lib.Dec.{ltb, eqb}
use lib.IntN.{ℤ, pos, negsuc}
use lib.ListN.{length, take, drop, set}
use lib.Seq.{drop-drop, take-suc-set, append_snoc}
use Rattle.encoding.specs.Challenge.{index_of, coefficient_of, coefficient_at, coefficients_from, entries_from}

-- ---- reading: the next coefficient, and what is left of the entries

not_zero : (t : Bool) → cond t (pos 1) (negsuc 0) ≡ pos 0 → ⊥
not_zero true e = let z : ◌≡◌ {A = ℕ} 0 1 = cc in omega arith
not_zero false e = let z : ◌≡◌ {A = ℕ} 0 1 = cc in omega arith

-- an entry that is used, and one that is not, by the test of its index
used : (t : Bool) (a : ℤ) (p q : List ℤ) → (cond t a (pos 0) ≡ pos 0 → ⊥) → cond t (a ∷ p) (pos 0 ∷ q) ≡ cond t a (pos 0) ∷ p
used true a p q h = refl
used false a p q h = absurd (h refl)

kept : (t : Bool) (a : ℤ) (p q : List ℤ) → (a ≡ pos 0 → ⊥) → cond t a (pos 0) ≡ pos 0 → cond t (a ∷ p) (pos 0 ∷ q) ≡ pos 0 ∷ q
kept true a p q h e = absurd (h e)
kept false a p q h e = refl

module _ (i n : ℕ) where
  coefficients_used : (es : List ℕ) → (coefficient_at i es ≡ pos 0 → ⊥)
      → coefficients_from i (suc n) es ≡ coefficient_at i es ∷ coefficients_from (suc i) n (drop 1 es)
  coefficients_used [] h = absurd (h refl)
  coefficients_used (e ∷ es) h = used (eqb (index_of e) i) (coefficient_of e) (coefficients_from (suc i) n es) (coefficients_from (suc i) n (e ∷ es)) h

  coefficients_kept : (es : List ℕ) → coefficient_at i es ≡ pos 0 → coefficients_from i (suc n) es ≡ pos 0 ∷ coefficients_from (suc i) n es
  coefficients_kept [] h = refl
  coefficients_kept (e ∷ es) h =
      kept (eqb (index_of e) i) (coefficient_of e) (coefficients_from (suc i) n es) (coefficients_from (suc i) n (e ∷ es)) (not_zero (ltb e 32768)) h

-- c has the coefficients below i, and k entries are used
abbrev pub Read : List ℕ → ℕ → List ℤ → ℕ → ℕ → Type 0
Read es n c k i = coefficients_from 0 n es ≡ take i c ++ coefficients_from i (n - i) (drop k es)

module _ (es : List ℕ) (n : ℕ) (c : List ℤ) (k i : ℕ) (l : length c ≡ n) (h : i < length c) {a : ℤ}
    (e : a ≡ coefficient_at i (drop k es)) (s : Read es n c k i) where
  -- the coefficient a is stored at i, and r are the entries that are left
  stored : (r : List ℕ) → coefficients_from i (suc (n - (i + 1))) (drop k es) ≡ a ∷ coefficients_from (suc i) (n - (i + 1)) r
      → coefficients_from 0 n es ≡ take (i + 1) (set c i a) ++ coefficients_from (i + 1) (n - (i + 1)) r
  stored r g =
      let m : n - i ≡ suc (n - (i + 1)) = omega arith in
      s ∙ ap (λ (x : ℕ). take i c ++ coefficients_from i x (drop k es)) m ∙ ap (λ (x : List ℤ). take i c ++ x) g
      ∙ sym (append_snoc (take i c) a (coefficients_from (suc i) (n - (i + 1)) r))
      ∙ rw (add-one i) (ap (λ (x : List ℤ). x ++ coefficients_from (suc i) (n - suc i) r) (sym (take-suc-set c i a h)))

  pub read_used : (a ≡ pos 0 → ⊥) → Read es n (set c i a) (k + 1) (i + 1)
  read_used z =
      stored (drop (k + 1) es)
      (coefficients_used i (n - (i + 1)) (drop k es) (λ x. z (e ∙ x))
      ∙ ap (λ (y : ℤ). y ∷ coefficients_from (suc i) (n - (i + 1)) (drop 1 (drop k es))) (sym e)
      ∙ ap (λ (y : List ℕ). a ∷ coefficients_from (suc i) (n - (i + 1)) y) (drop-drop 1 k es))

  pub read_kept : a ≡ pos 0 → Read es n (set c i a) k (i + 1)
  read_kept z =
      stored (drop k es)
      (coefficients_kept i (n - (i + 1)) (drop k es) (sym e ∙ z) ∙ ap (λ (y : ℤ). y ∷ coefficients_from (suc i) (n - (i + 1)) (drop k es)) (sym z))

-- ---- writing

-- the first k entries are those of the coefficients below i
abbrev pub Put : List ℤ → List ℕ → ℕ → ℕ → Type 0
Put c es k i = entries_from 0 c ≡ take k es ++ entries_from i (drop i c)
