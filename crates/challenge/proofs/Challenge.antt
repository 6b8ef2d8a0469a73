-- The drawn challenge: N coefficients, each -1, 0 or 1, and exactly b of them not 0.
-- Assumes nothing.
use mathlib.Core.Path.{◌≡◌, refl, sym, ap, ◌∙◌}
use mathlib.Core.Bool.{Bool, true, false, ◌||◌, not, false≢true}
use mathlib.Core.List.{List, [], ◌∷◌, ◌++◌}
use mathlib.Core.Option.{some}
use Prim.Native.Nat.{ℕ, zero, suc, ◌*◌, ◌/◌, ◌%◌, ◌<◌}
use native.Mathlib.Omega.{arith}
use borrow.Author.Tests.{leb-false, eqb-true, eqb-false}
use lib.Dec.{T, leb, eqb}
use lib.IntN.{ℤ, pos, nat_abs}
use lib.ListN.{length, length-append, length-set, length-replicate, get_or-replicate}
use lib.Seq.{get_or-set_other}
use Rattle.algebra.proofs.All.{all-set}
use Rattle.algebra.proofs.Count.{count-set, count_copies}
use Rattle.algebra.proofs.Test.{cond_by, by_test}
use Rattle.parameters.specs.declared.Params.{Params}
use Rattle.polynomial.specs.Polynomial.{coefficient, ternary}
use Rattle.polynomial.specs.Sparse.{Sparse, is_zero, nonzeros}
use Rattle.polynomial.proofs.Bound.{within_zeros}
use Rattle.challenge.specs.Draw.{sign_at, value_at, taken, with_value, kept, placed, value_count, draw, draw_challenge}
use Rattle.challenge.proofs.Kept.{index_below, sign_by, sign_abs, taken_more, placed_more}

neither : (a b : Bool) → a || b ≡ false → (a ≡ false) × (b ≡ false)
neither true b e = absurd (false≢true (sym e))
neither false b e = (refl, e)

module _ (p : Params) (bytes : List ℕ) where
  -- what holds of no index, and is kept by each index below N that is not taken, holds of the indices kept
  kept_by : (P : List ℕ → Type 0) → P []
      → ((js : List ℕ) (j : ℕ) → j < p.n → taken j js ≡ false → P js → P (js ++ (j ∷ [])))
      → (m : ℕ) → P (kept p bytes m)
  unfolding kept with_value
  kept_by P none_yet more zero = none_yet
  kept_by P none_yet more (suc m) =
      let v = value_at bytes m in
      let js = kept p bytes m in
      let h : P js = kept_by P none_yet more m in
      cond_by P (leb p.b (length js)) (λ e. h)
      (λ e. cond_by P (leb (p.n * (65536 / p.n)) v) (λ f. h)
      (λ f. cond_by P (taken (v % p.n) js) (λ g. h)
      (λ g. more js (v % p.n) (index_below v p.n (leb-false (p.n * (65536 / p.n)) v f)) g h)))

  -- the challenge with the indices js: what `Sparse` asks, with the number of indices for b, and 0 where no index is
  record Placed (js : List ℕ) : Type 0 where
    size : length (placed p bytes js) ≡ p.n
    small : T (ternary (placed p bytes js))
    exact : nonzeros (placed p bytes js) ≡ length js
    free : (k : ℕ) → k < p.n → taken k js ≡ false → coefficient (placed p bytes js) k ≡ pos 0

  placed_next : (js : List ℕ) (j : ℕ) → j < p.n → taken j js ≡ false → Placed js → Placed (js ++ (j ∷ []))
  placed_next js j l t h =
      let c = placed p bytes js in
      let v = sign_at bytes (length js) in
      let a = sign_abs bytes (length js) in
      record {
        size = rw placed_more (length-set c j v ∙ h.size);
        small = rw placed_more (all-set (λ (x : ℤ). leb (nat_abs x) 1) c j v h.small (rw a tt));
        exact =
            rw (placed_more, length-append)
            (count-set (λ (x : ℤ). not (is_zero x)) c j (pos 0) v (omega (arith, h.size)) (ap (λ (x : ℤ). not (is_zero x)) (h.free j l t))
            (sign_by (λ (z : ℤ). not (is_zero z) ≡ true) bytes (length js) refl refl) ∙ omega (arith, h.exact));
        free = λ k b u.
            let w : (taken k js ≡ false) × (eqb k j ≡ false) = neither (taken k js) (eqb k j) (sym (taken_more k j js) ∙ u) in
            rw placed_more (get_or-set_other c j k v (pos 0) (eqb-false k j w.1) ∙ h.free k b w.0);
      }

  placed_kept : (m : ℕ) → Placed (kept p bytes m)
  unfolding placed
  placed_kept =
      kept_by Placed
      (record {
        size = length-replicate p.n (pos 0);
        small = within_zeros 1 p.n;
        exact = count_copies (λ (x : ℤ). not (is_zero x)) p.n (pos 0) refl;
        free = λ k h t. get_or-replicate p.n k (pos 0) (pos 0) h;
      })
      placed_next

  -- a challenge that a pool yields is sparse
  pub drawn_sparse : (c : List ℤ) → draw p bytes ≡ some c → Sparse p c
  unfolding draw
  drawn_sparse c =
      let js = kept p bytes (value_count bytes) in
      let h = placed_kept (value_count bytes) in
      by_test (eqb (length js) p.b)
      (λ t e.
      let f : placed p bytes js ≡ c = cc in
      record { size = rw f at h.size; small = rw f at h.small; exact = rw f at h.exact ∙ eqb-true (length js) p.b t })
      (λ t e. let z : ◌≡◌ {A = ℕ} 0 1 = cc in absurd (omega arith))

-- and so is the challenge of a commitment and a message, under any rule
pub challenge_sparse : (rule : ℕ) (p : Params) (w message : List ℕ) (c : List ℤ) → draw_challenge rule p w message ≡ some c → Sparse p c
unfolding draw_challenge
challenge_sparse rule p w message = drawn_sparse p _
