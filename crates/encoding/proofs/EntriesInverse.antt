-- A challenge's entries read back, and entries written back.
-- Assumes nothing.
use mathlib.Core.Path.{◌≡◌, refl, sym, ap, ap₂, subst, ◌∙◌}
use mathlib.Core.Bool.{true, false, ◌&&◌}
use mathlib.Core.List.{List, [], ◌∷◌, map}
use Prim.Native.Nat.{ℕ, zero, suc, ◌+◌, ◌≤◌, ◌<◌}
use native.Mathlib.Omega.{arith}
use lib.Dec.{T, ltb, leb, eqb, ltb→lt, lt→ltb, leb→le, le→leb}
use lib.IntN.{ℤ, pos, negsuc}
use lib.ListN.{length}
use borrow.Author.Tests.{lt-ltb, le-ltb, eq-eqb, ne_eqb, ltb-true, ltb-false, eqb-true, eqb-false}
use Rattle.algebra.specs.Integer.{within}
use Rattle.algebra.proofs.Test.{and_left, and_right, and_intro, by_test}
use Rattle.algebra.specs.All.{are_below}
use Rattle.encoding.specs.Bytes.{increasing}
use Rattle.encoding.specs.Challenge.{index_of, coefficient_of, coefficients_from, entries_from}

-- the two entries of an index
module _ (i : ℕ) (h : i < 32768) where
  index_plus : index_of i ≡ i
  index_plus = omega arith

  index_minus : index_of (i + 32768) ≡ i
  index_minus = omega arith

  coefficient_plus : coefficient_of i ≡ pos 1
  coefficient_plus = rw (lt-ltb i 32768 h)

  coefficient_minus : coefficient_of (i + 32768) ≡ negsuc 0
  coefficient_minus = rw (le-ltb (i + 32768) 32768 (omega arith))

-- an entry by its index and its sign
entry_plus : (e : ℕ) → ltb e 32768 ≡ true → index_of e ≡ e
entry_plus e t = let h : e < 32768 = ltb-true e 32768 t in omega arith

entry_minus : (e : ℕ) → ltb e 32768 ≡ false → e < 65536 → index_of e + 32768 ≡ e
entry_minus e t b = let h : 32768 ≤ e = ltb-false e 32768 t in omega arith

-- ---- increasing indices

module _ (n : ℕ) where
  first_number : (from v : ℕ) (vs : List ℕ) → T (increasing n from (v ∷ vs)) → (from ≤ v) × (v < n) × T (increasing n (suc v) vs)
  first_number from v vs t =
      let r = and_right (leb from v) (ltb v n && increasing n (suc v) vs) t in (
        leb→le from v (and_left (leb from v) (ltb v n && increasing n (suc v) vs) t),
        ltb→lt v n (and_left (ltb v n) (increasing n (suc v) vs) r),
        and_right (ltb v n) (increasing n (suc v) vs) r,
      )

  increasing_from : (from v : ℕ) (vs : List ℕ) → from ≤ v → v < n → T (increasing n (suc v) vs) → T (increasing n from (v ∷ vs))
  increasing_from from v vs h l t =
      and_intro (leb from v) (ltb v n && increasing n (suc v) vs) (le→leb from v h) (and_intro (ltb v n) (increasing n (suc v) vs) (lt→ltb v n l) t)

  -- a lower bound may be lowered
  lowered : (i : ℕ) (vs : List ℕ) → T (increasing n (suc i) vs) → T (increasing n i vs)
  lowered i [] t = tt
  lowered i (v ∷ vs) t = let (h, l, r) = first_number (suc i) v vs t in increasing_from i v vs (omega arith) l r

  put_in : (i e : ℕ) (es : List ℕ) → index_of e ≡ i → i < n → T (increasing n (suc i) (map index_of es)) → T (increasing n i (map index_of (e ∷ es)))
  put_in i e es q h t = increasing_from i (index_of e) (map index_of es) (omega arith) (omega arith) (rw q t)

  pub entries_increasing : n ≤ 32768 → (i : ℕ) (c : List ℤ) → i + length c ≤ n → T (increasing n i (map index_of (entries_from i c)))
  entries_increasing b i [] h = tt
  entries_increasing b i (pos zero ∷ c) h = lowered i (map index_of (entries_from (suc i) c)) (entries_increasing b (suc i) c (omega arith))
  entries_increasing b i (pos (suc a) ∷ c) h =
      put_in i i (entries_from (suc i) c) (index_plus i (omega arith)) (omega arith) (entries_increasing b (suc i) c (omega arith))
  entries_increasing b i (negsuc a ∷ c) h =
      put_in i (i + 32768) (entries_from (suc i) c) (index_minus i (omega arith)) (omega arith) (entries_increasing b (suc i) c (omega arith))

pub entries_below : (i : ℕ) (c : List ℤ) → i + length c ≤ 32768 → T (are_below 65536 (entries_from i c))
entries_below i [] h = tt
entries_below i (pos zero ∷ c) h = entries_below (suc i) c (omega arith)
entries_below i (pos (suc a) ∷ c) h =
    and_intro (ltb i 65536) (are_below 65536 (entries_from (suc i) c)) (lt→ltb i 65536 (omega arith)) (entries_below (suc i) c (omega arith))
entries_below i (negsuc a ∷ c) h =
    and_intro (ltb (i + 32768) 65536) (are_below 65536 (entries_from (suc i) c)) (lt→ltb (i + 32768) 65536 (omega arith)) (entries_below (suc i) c (omega arith))

-- ---- coefficients from entries with increasing indices

-- what holds behind the last coefficient, and is kept by an entry with its coefficient in front and by a 0 in front, holds of the coefficients from index i
module _ (n : ℕ) (P : ℕ → List ℕ → List ℤ → Type 0) (done : P n [] [])
    (entry : (i e : ℕ) (es : List ℕ) (c : List ℤ) → index_of e ≡ i → P (suc i) es c → P i (e ∷ es) (coefficient_of e ∷ c))
    (none : (i : ℕ) (es : List ℕ) (c : List ℤ) → P (suc i) es c → P i es (pos 0 ∷ c)) where
  pub by_coefficient : (k i : ℕ) (es : List ℕ) → n ≡ i + k → T (increasing n i (map index_of es)) → P i es (coefficients_from i k es)
  by_coefficient zero i [] s t = subst (λ (j : ℕ). P j [] []) (omega arith) done
  by_coefficient zero i (e ∷ es) s t = let (h, l, r) = first_number n i (index_of e) (map index_of es) t in absurd (omega arith)
  by_coefficient (suc k) i [] s t = none i [] _ (by_coefficient k (suc i) [] (omega arith) tt)
  by_coefficient (suc k) i (e ∷ es) s t =
      let (h, l, r) = first_number n i (index_of e) (map index_of es) t in
      by_test (eqb (index_of e) i)
      (λ q. let x : index_of e ≡ i = eqb-true (index_of e) i q in rw q (entry i e es _ x (by_coefficient k (suc i) es (omega arith) (rw x at r))))
      (λ q. let x = eqb-false (index_of e) i q in
      rw q (none i (e ∷ es) _ (by_coefficient k (suc i) (e ∷ es) (omega arith) (increasing_from n (suc i) (index_of e) (map index_of es) (omega arith) l r))))

-- ---- the challenge of a challenge's entries

module _ (n i k : ℕ) where
  -- an entry of the index i gives the coefficient, and entries of later indices give 0
  here : (e : ℕ) (es : List ℕ) → index_of e ≡ i → coefficients_from i (suc k) (e ∷ es) ≡ coefficient_of e ∷ coefficients_from (suc i) k es
  here e es q = rw (eq-eqb (index_of e) i q)

  later : (es : List ℕ) → T (increasing n (suc i) (map index_of es)) → coefficients_from i (suc k) es ≡ pos 0 ∷ coefficients_from (suc i) k es
  later [] t = refl
  later (e ∷ es) t = let (h, l, r) = first_number n (suc i) (index_of e) (map index_of es) t in rw (ne_eqb (index_of e) i (λ q. omega arith))

module _ (n : ℕ) (b : n ≤ 32768) where
  pub coefficients_of_entries : (i : ℕ) (c : List ℤ) → i + length c ≤ n → T (within 1 c) → coefficients_from i (length c) (entries_from i c) ≡ c
  coefficients_of_entries i [] h t = refl
  coefficients_of_entries i (pos zero ∷ c) h t =
      later n i (length c) (entries_from (suc i) c) (entries_increasing n b (suc i) c (omega arith))
      ∙ ap (λ (l : List ℤ). pos 0 ∷ l) (coefficients_of_entries (suc i) c (omega arith) t)
  coefficients_of_entries i (pos (suc a) ∷ c) h t =
      let q : suc a ≤ 1 = leb→le (suc a) 1 (and_left (leb (suc a) 1) (within 1 c) t) in
      here n i (length c) i (entries_from (suc i) c) (index_plus i (omega arith))
      ∙ ap₂ (λ (x : ℤ) (l : List ℤ). x ∷ l) (coefficient_plus i (omega arith) ∙ ap pos (omega arith))
      (coefficients_of_entries (suc i) c (omega arith) (and_right (leb (suc a) 1) (within 1 c) t))
  coefficients_of_entries i (negsuc a ∷ c) h t =
      let q : suc a ≤ 1 = leb→le (suc a) 1 (and_left (leb (suc a) 1) (within 1 c) t) in
      here n i (length c) (i + 32768) (entries_from (suc i) c) (index_minus i (omega arith))
      ∙ ap₂ (λ (x : ℤ) (l : List ℤ). x ∷ l) (coefficient_minus i (omega arith) ∙ ap negsuc (omega arith))
      (coefficients_of_entries (suc i) c (omega arith) (and_right (leb (suc a) 1) (within 1 c) t))

-- ---- the entries of entries' challenge

module _ (i : ℕ) (c : List ℤ) where
  entry_back : (e : ℕ) → e < 65536 → index_of e ≡ i → entries_from i (coefficient_of e ∷ c) ≡ e ∷ entries_from (suc i) c
  entry_back e b q =
      by_test (ltb e 32768)
      (λ t. let x : i ≡ e = sym q ∙ entry_plus e t in rw t (ap (λ (y : ℕ). y ∷ entries_from (suc i) c) x))
      (λ t. let x : i + 32768 ≡ e = ap (λ (y : ℕ). y + 32768) (sym q) ∙ entry_minus e t b in rw t (ap (λ (y : ℕ). y ∷ entries_from (suc i) c) x))

pub entries_of_coefficients : (k i n : ℕ) (es : List ℕ) → n ≡ i + k → T (increasing n i (map index_of es)) → T (are_below 65536 es)
    → entries_from i (coefficients_from i k es) ≡ es
entries_of_coefficients k i n =
    by_coefficient n (λ (j : ℕ) (es : List ℕ) (c : List ℤ). T (are_below 65536 es) → entries_from j c ≡ es) (λ b. refl)
    (λ j e es c q h b.
    entry_back j c e (ltb→lt e 65536 (and_left (ltb e 65536) (are_below 65536 es) b)) q
    ∙ ap (λ (y : List ℕ). e ∷ y) (h (and_right (ltb e 65536) (are_below 65536 es) b)))
    (λ j es c h. h) k i
