-- The drawer's loop: its marks, its challenge and its count stand for the indices kept. One law for each way that a value can go,
-- and one for the stop after b indices.
-- Assumes nothing.
use mathlib.Core.Path.{◌≡◌, refl, sym, ap, ◌∙◌}
use mathlib.Core.Bool.{Bool, true, false, ◌||◌, or-false, or-true}
use mathlib.Core.Logic.{◌⊎◌, inl, inr, ⊎_elim}
use mathlib.Core.List.{List, [], ◌∷◌, ◌++◌}
use Prim.Native.Nat.{ℕ, zero, suc, ◌+◌, ◌-◌, ◌*◌, ◌/◌, ◌%◌, ◌^◌, ◌≤◌, ◌<◌}
use native.Mathlib.Nat.{add-zero, zero-add, add-suc, zero-mul, mod-lt}
use native.Mathlib.Numerals.{add-one}
use native.Mathlib.Omega.{arith}
use borrow.Author.Tests.{eqb-true, eqb-false, leb-false, le-leb, lt-leb}
use lib.Dec.{leb, eqb}
use lib.IntN.{ℤ, pos, negsuc, nat_abs}
use lib.ListN.{length, get_or, set, take, replicate, length-append, length-set, length-replicate, get_or-replicate}
use lib.Seq.{get_or-set_same, get_or-set_other, take-set-lt}
use mir.Syntax.{w8}
use mir.Val.{to_z, of_z}
use mir.Facts.{to_z-of_z}
use Rattle.std.specs.Bool.{then_some}
use Rattle.algebra.proofs.List.{take-replicate}
use Rattle.algebra.proofs.Test.{cond_by, by_test}
use Rattle.algebra.proofs.Signed.{fits_signed}
use Rattle.parameters.specs.declared.Params.{Params}
use Rattle.parameters.specs.Limits.{max_n}
use Rattle.challenge.specs.Draw.{sign_at, value_at, taken, with_value, kept, signed, placed, value_count, draw, drawn_of}

-- what becomes of a value v
module _ (p : Params) (v : ℕ) (js : List ℕ) where
  offered_full : p.b ≤ length js → with_value p v js ≡ js
  unfolding with_value
  offered_full h = rw (le-leb p.b (length js))

  -- above the bound, or its index taken
  offered_skipped : (p.n * (65536 / p.n) ≤ v) ⊎ (taken (v % p.n) js ≡ true) → with_value p v js ≡ js
  unfolding with_value
  offered_skipped why =
      by_test (leb p.b (length js)) (λ e. rw e)
      (λ e. by_test (leb (p.n * (65536 / p.n)) v) (λ f. rw (e, f))
      (λ f. rw (e, f) (⊎_elim (λ h. absurd (omega (arith, h, leb-false (p.n * (65536 / p.n)) v f))) (λ t. rw t) why)))

  offered_kept : length js < p.b → v < p.n * (65536 / p.n) → taken (v % p.n) js ≡ false → with_value p v js ≡ js ++ (v % p.n ∷ [])
  unfolding with_value
  offered_kept h l e = rw (lt-leb p.b (length js), lt-leb (p.n * (65536 / p.n)) v, e)

-- once b indices are kept, further values change nothing
kept_full : (p : Params) (bytes : List ℕ) (m d : ℕ) → p.b ≤ length (kept p bytes m) → kept p bytes (m + d) ≡ kept p bytes m
unfolding kept
kept_full p bytes m zero h = ap (kept p bytes) (add-zero m)
kept_full p bytes m (suc d) h =
    let e = kept_full p bytes m d h in
    ap (kept p bytes) (add-suc m d) ∙ ap (with_value p (value_at bytes (m + d))) e ∙ offered_full p (value_at bytes (m + d)) (kept p bytes m) h

-- n values, where the first m keep b indices or are all of them
kept_rest : (p : Params) (bytes : List ℕ) (m n : ℕ) → m ≤ n → (p.b ≤ length (kept p bytes m)) ⊎ (n ≤ m) → kept p bytes n ≡ kept p bytes m
kept_rest p bytes m n h =
    ⊎_elim
    (λ (l : p.b ≤ length (kept p bytes m)).
    let e : n ≡ m + (n - m) = omega arith in
    ap (kept p bytes) e ∙ kept_full p bytes m (n - m) l)
    (λ (l : n ≤ m). ap (kept p bytes) (omega arith))

-- a sign is 1 or -1, so it fits a signed byte

pub sign_by : (P : ℤ → Type 0) (bytes : List ℕ) (i : ℕ) → P (pos 1) → P (negsuc 0) → P (sign_at bytes i)
unfolding sign_at
sign_by P bytes i plus minus = cond_by P (eqb (get_or bytes (i / 8) 0 / 2 ^ (i % 8) % 2) 0) (λ e. plus) (λ e. minus)

pub sign_abs : (bytes : List ℕ) (i : ℕ) → nat_abs (sign_at bytes i) ≡ 1
sign_abs bytes i = sign_by (λ (z : ℤ). nat_abs z ≡ 1) bytes i refl refl

pub sign_stored : (bytes : List ℕ) (i : ℕ) {r : ℤ} → r ≡ sign_at bytes i → to_z w8 (of_z w8 r) ≡ sign_at bytes i
sign_stored bytes i e = rw e (to_z-of_z (fits_signed w8 (sign_at bytes i) (rw (sign_abs bytes i) (omega arith))))

-- one index more, in the marks and in the challenge

pub taken_more : (k j : ℕ) (js : List ℕ) → taken k (js ++ (j ∷ [])) ≡ taken k js || eqb k j
taken_more k j [] = or-false (eqb k j)
taken_more k j (i ∷ js) = by_test (eqb k i) (λ e. rw e) (λ e. rw e (taken_more k j js))

marks_more : (marks : List Bool) (k j : ℕ) (js : List ℕ) → j < length marks → get_or marks k false ≡ taken k js
    → get_or (set marks j true) k false ≡ taken k (js ++ (j ∷ []))
marks_more marks k j js h e =
    rw (taken_more k j js)
    (by_test (eqb k j)
    (λ t. rw (t, eqb-true k j t, or-true) (get_or-set_same marks j true false h))
    (λ t. rw (t, or-false) (get_or-set_other marks j k true false (eqb-false k j t) ∙ e)))

signed_more : (bytes : List ℕ) (i j : ℕ) (js : List ℕ) (c : List ℤ)
    → signed bytes i (js ++ (j ∷ [])) c ≡ set (signed bytes i js c) j (sign_at bytes (i + length js))
signed_more bytes i j [] c = rw (add-zero i)
signed_more bytes i j (k ∷ js) c =
    signed_more bytes (suc i) j js (set c k (sign_at bytes i))
    ∙ ap (λ (s : ℕ). set (signed bytes (suc i) js (set c k (sign_at bytes i))) j (sign_at bytes s)) (omega arith)

pub placed_more : (p : Params) (bytes : List ℕ) (j : ℕ) (js : List ℕ)
    → placed p bytes (js ++ (j ∷ [])) ≡ set (placed p bytes js) j (sign_at bytes (length js))
unfolding placed
placed_more p bytes j js = signed_more bytes 0 j js (replicate p.n (pos 0)) ∙ rw zero-add

-- the index of a value that is not skipped is one of the N, whatever N is
pub index_below : (v n : ℕ) → v < n * (65536 / n) → v % n < n
index_below v zero h = absurd (omega (arith, zero-mul (65536 / 0)))
index_below v (suc n) h = mod-lt v (omega arith)

-- the loop's locals where the indices js are kept
pub record Held (p : Params) (bytes js : List ℕ) (marks : List Bool) (challenge : List ℤ) (count : ℕ) : Type 0 where
  pub marks_size : length marks ≡ max_n
  pub size : length challenge ≡ max_n
  pub counted : count ≡ length js
  pub marked : (k : ℕ) → k < p.n → get_or marks k false ≡ taken k js
  pub front : take p.n challenge ≡ placed p bytes js

pub held_none : (p : Params) (bytes : List ℕ) → p.n ≤ max_n → Held p bytes (kept p bytes 0) (replicate max_n false) (replicate max_n (pos 0)) 0
unfolding kept placed
held_none p bytes h = record {
  marks_size = length-replicate max_n false;
  size = length-replicate max_n (pos 0);
  counted = refl;
  marked = λ k l. get_or-replicate max_n k false false (omega arith);
  front = take-replicate p.n max_n (pos 0) h;
}

module _ (p : Params) (bytes : List ℕ) (m : ℕ) {marks : List Bool} {challenge : List ℤ} {count : ℕ}
    (s : Held p bytes (kept p bytes m) marks challenge count) where
  -- the loop ends where b indices are kept or no value is left
  pub held_all : m ≤ value_count bytes → (p.b ≤ count) ⊎ (value_count bytes ≤ m) → drawn_of p (then_some (eqb count p.b) challenge) ≡ draw p bytes
  unfolding draw
  held_all h left =
      let e = kept_rest p bytes m (value_count bytes) h (⊎_elim (λ (q : p.b ≤ count). inl (omega (arith, s.counted))) inr left) in
      rw (e, ← s.counted) (by_test (eqb count p.b) (λ t. rw (t, s.front)) (λ t. rw t))

  module _ (v : ℕ) (e : v ≡ value_at bytes m) where
    kept_next : kept p bytes (m + 1) ≡ with_value p v (kept p bytes m)
    unfolding kept
    kept_next = ap (kept p bytes) (add-one m) ∙ ap (λ (x : ℕ). with_value p x (kept p bytes m)) (sym e)

    -- the value is skipped, so nothing changes
    pub held_above : p.n * (65536 / p.n) ≤ v → Held p bytes (kept p bytes (m + 1)) marks challenge count
    held_above h = rw (kept_next ∙ offered_skipped p v (kept p bytes m) (inl h)) s

    pub held_taken : v < p.n * (65536 / p.n) → get_or marks (v % p.n) false ≡ true → Held p bytes (kept p bytes (m + 1)) marks challenge count
    held_taken h t =
        rw (kept_next ∙ offered_skipped p v (kept p bytes m) (inr (sym (s.marked (v % p.n) (index_below v p.n h)) ∙ t))) s

    -- the value's index is kept
    pub held_more : {sign : ℤ} → p.n ≤ max_n → count < p.b → v < p.n * (65536 / p.n) → get_or marks (v % p.n) false ≡ false
        → sign ≡ sign_at bytes count → Held p bytes (kept p bytes (m + 1)) (set marks (v % p.n) true) (set challenge (v % p.n) sign) (count + 1)
    held_more {sign} fits h l free g =
        let j = v % p.n in
        let below : v % p.n < p.n = index_below v p.n l in
        let js = kept p bytes m in
        rw (kept_next ∙ offered_kept p v js (omega (arith, s.counted)) l (sym (s.marked j below) ∙ free))
        (record {
          marks_size = length-set marks j true ∙ s.marks_size;
          size = length-set challenge j sign ∙ s.size;
          counted = rw length-append (omega (arith, s.counted));
          marked = λ k b. marks_more marks k j js (omega (arith, s.marks_size)) (s.marked k b);
          front = rw (placed_more p bytes j js, take-set-lt p.n challenge j sign below, g, s.front, s.counted);
        })
