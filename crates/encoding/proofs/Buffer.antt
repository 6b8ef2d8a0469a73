-- A buffer that calls fill by parts: a first byte, a middle and an end.
-- Assumes nothing.
use mathlib.Core.Path.{◌≡◌, refl, ap, ap₂, ◌∙◌}
use mathlib.Core.List.{List, [], ◌∷◌, ◌++◌, append-nil}
use Prim.Native.Nat.{ℕ, ◌+◌, ◌-◌, ◌<◌, ◌≤◌}
use native.Mathlib.Omega.{arith}
use lib.ListN.{length, drop, set, length-append, drop_of_length-le}
use lib.Seq.{take_at, drop_at}
use borrow.Rule.Slice.PartMut.{put_mid}

-- v in place of all behind the first n elements, which are l
end_put : {A : Type 0} (l rest : List A) (n : ℕ) → length l ≡ n → (v : List A) → put_mid n (length (l ++ rest) - n) (l ++ rest) v ≡ l ++ v
end_put {A} l rest n size v =
    let m = length (l ++ rest) - n in
    let none = ap (drop m) (drop_at l rest n size) ∙ drop_of_length-le rest {i = m} (omega (arith, length-append l rest)) in
    ap₂ ◌++◌ (take_at l rest n size) (ap (λ (r : List A). v ++ r) none ∙ append-nil v)

-- the byte s in front, and u in place of the m bytes after it
front_put : (out u : List ℕ) (s m : ℕ) → 0 < length out → put_mid 1 m (set out 0 s) u ≡ (s ∷ u) ++ drop m (drop 1 out)
front_put [] u s m h = absurd (omega arith)
front_put (x ∷ out) u s m h = refl

-- the byte s in front, the n bytes u after it, and v in place of the rest
pub whole : (out u v : List ℕ) (s n : ℕ) → 1 + n ≤ length out → length u ≡ n
    → let begun = put_mid 1 (1 + n - 1) (set out 0 s) u in put_mid (1 + n) (length begun - (1 + n)) begun v ≡ s ∷ (u ++ v)
whole out u v s n room size =
    let rest = drop (1 + n - 1) (drop 1 out) in
    ap (λ (l : List ℕ). put_mid (1 + n) (length l - (1 + n)) l v) (front_put out u s (1 + n - 1) (omega arith)) ∙ end_put (s ∷ u) rest (1 + n) (omega arith) v

-- the byte s in front, and v in place of the rest
pub headed : (out v : List ℕ) (s : ℕ) → 0 < length out → put_mid 1 (length (set out 0 s) - 1) (set out 0 s) v ≡ s ∷ v
headed [] v s h = absurd (omega arith)
headed (x ∷ out) v s h =
    ap (λ (l : List ℕ). s ∷ (v ++ l)) (drop_of_length-le out {i = length (s ∷ out) - 1} (omega arith)) ∙ ap (λ (l : List ℕ). s ∷ l) (append-nil v)
