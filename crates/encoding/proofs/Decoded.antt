-- An array whose first n places a call has filled from k bytes, with what f makes of n numbers of w bytes each.
-- Assumes nothing.
use mathlib.Core.Path.{◌≡◌, sym, ap, ◌∙◌}
use mathlib.Core.List.{List, ◌++◌, map}
use Prim.Native.Nat.{ℕ, ◌*◌, ◌≤◌}
use lib.ListN.{length, take, drop, length-map}
use Rattle.algebra.proofs.Front.{in_front, stored}
use Rattle.encoding.specs.Bytes.{numbers}
use Rattle.encoding.proofs.Parts.{length-numbers, numbers_part}

pub decoded : {A : Type 0} (f : ℕ → A) (w n k : ℕ) (array : List A) (xs : List ℕ) → n ≤ length array → k ≡ w * n
    → {written : List A} → written ≡ map f (numbers w (length (take n array)) (take k xs)) → take n (written ++ drop n array) ≡ map f (numbers w n xs)
decoded f w n k array xs room size e =
    let count = (in_front n array room).count in
    (stored n (drop n array) (length-map (numbers w n xs) f ∙ length-numbers w n xs)
    (e ∙ ap (map f) (numbers_part w k xs (size ∙ ap (λ (m : ℕ). w * m) count) (sym count)))).front
