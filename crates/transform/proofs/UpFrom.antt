-- Numbers one after the other, and a function of each: entries, tests of them all, and a loop that fills an array with them.
-- Assumes nothing.
use mathlib.Core.Path.{◌≡◌, refl, sym, ap, ◌∙◌}
use mathlib.Core.Bool.{Bool, not}
use mathlib.Core.Logic.{◌≢◌}
use mathlib.Core.List.{List, [], ◌∷◌, map}
use Prim.Native.Nat.{ℕ, zero, suc, ◌+◌, ◌-◌, ◌<◌, ◌≤◌}
use native.Mathlib.Nat.{zero-add, le_of_suc-le-suc, not-suc-le-zero}
use native.Mathlib.Omega.{arith}
use borrow.Author.Tests.{eq-eqb}
use lib.Dec.{T, eqb, eqb→eq, T_not, not_T}
use lib.ListN.{length, get_or, set, length-map}
use Rattle.algebra.specs.All.{all}
use Rattle.algebra.proofs.All.{all_at, all_from}
use Rattle.algebra.proofs.Test.{true_holds}
use Rattle.algebra.proofs.Filling.{Filled, filled_map}
use Rattle.transform.specs.UpFrom.{up_from}

pub up_length : (a n : ℕ) → length (up_from a n) ≡ n
up_length a zero = refl
up_length a (suc n) = ap suc (up_length (suc a) n)

pub up_at : (a n i d : ℕ) → i < n → get_or (up_from a n) i d ≡ a + i
up_at a zero i d h = absurd (omega arith)
up_at a (suc n) zero d h = omega arith
up_at a (suc n) (suc i) d h = up_at (suc a) n i d (omega arith) ∙ omega arith

-- a test that all of them pass, and what it says of each
pub up_tests : (f : ℕ → Bool) (a n : ℕ) → ((d : ℕ) → a ≤ d → d < a + n → T (f d)) → T (all f (up_from a n))
up_tests f a n h =
    all_from f (up_from a n) 0 (λ i l. let b : i < n = omega (arith, up_length a n) in rw (up_at a n i 0 b) (h (a + i) (omega arith) (omega arith)))

pub up_test : (f : ℕ → Bool) (a n : ℕ) → T (all f (up_from a n)) → (d : ℕ) → a ≤ d → d < a + n → T (f d)
up_test f a n t d h l =
    let e : a + (d - a) ≡ d = omega arith in
    rw (← e, ← up_at a n (d - a) 0 (omega arith)) (all_at f (up_from a n) 0 t (d - a) (omega (arith, up_length a n)))

-- numbers that are never v, by the test of them
module _ (f : ℕ → ℕ) (v a n : ℕ) where
  pub up_never : T (all (λ (d : ℕ). not (eqb (f d) v)) (up_from a n)) → (d : ℕ) → a ≤ d → d < a + n → f d ≢ v
  up_never t d h l e = T_not (eqb (f d) v) (up_test (λ (d : ℕ). not (eqb (f d) v)) a n t d h l) (true_holds (eq-eqb (f d) v e))

  pub never_up : ((d : ℕ) → a ≤ d → d < a + n → f d ≢ v) → T (all (λ (d : ℕ). not (eqb (f d) v)) (up_from a n))
  never_up h = up_tests (λ (d : ℕ). not (eqb (f d) v)) a n (λ d b l. not_T (eqb (f d) v) (λ t. h d b l (eqb→eq (f d) v t)))

-- a loop that fills an array with f of each number from 0 on
pub filled_up : {A : Type 0} (f : ℕ → A) (n : ℕ) {size : ℕ} {array : List A} {i : ℕ} {v : A} → Filled (map f (up_from 0 n)) n size array i → i < n → i < size
    → v ≡ f i → Filled (map f (up_from 0 n)) n size (set array i v) (i + 1)
filled_up f n {i = i} s h l e = filled_map f (up_from 0 n) s 0 h l (e ∙ ap f (sym (up_at 0 n i 0 h ∙ zero-add i)))

pub up_map-length : {A : Type 0} (f : ℕ → A) (a n : ℕ) → length (map f (up_from a n)) ≡ n
up_map-length f a n = length-map (up_from a n) f ∙ up_length a n

-- f of each element of a list, whatever is read behind the end
pub map_at : {A B : Type 0} (f : A → B) (l : List A) (i : ℕ) (d : B) (e : A) → i < length l → get_or (map f l) i d ≡ f (get_or l i e)
map_at f [] i d e h = absurd (not-suc-le-zero h)
map_at f (x ∷ l) zero d e h = refl
map_at f (x ∷ l) (suc i) d e h = map_at f l i d e (le_of_suc-le-suc h)

pub up_map_at : {A : Type 0} (f : ℕ → A) (a n i : ℕ) (d : A) → i < n → get_or (map f (up_from a n)) i d ≡ f (a + i)
up_map_at f a n i d h = map_at f (up_from a n) i d 0 (omega (arith, up_length a n)) ∙ ap f (up_at a n i 0 h)

pub from_zero_at : {A : Type 0} (f : ℕ → A) (n i : ℕ) (d : A) → i < n → get_or (map f (up_from 0 n)) i d ≡ f i
from_zero_at f n i d h = up_map_at f 0 n i d h ∙ ap f (zero-add i)

-- where every value passes a test
pub up_map-all : {A : Type 0} (f : ℕ → A) (test : A → Bool) (a n : ℕ) → ((i : ℕ) → T (test (f i))) → T (all test (map f (up_from a n)))
up_map-all f test a n h =
    all_from test (map f (up_from a n)) (f 0)
    (λ i l. let b : i < n = omega (arith, up_map-length f a n) in rw (up_map_at f a n i (f 0) b) (h (a + i)))
