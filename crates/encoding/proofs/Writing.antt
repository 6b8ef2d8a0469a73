-- Numbers written as bytes, at any width.
-- Assumes nothing.
use mathlib.Core.Path.{◌≡◌, refl, sym, ap, ◌∙◌}
use mathlib.Core.List.{List, [], ◌∷◌, ◌++◌, append_assoc, flatten}
use Prim.Native.Nat.{ℕ, zero, suc, ◌*◌, ◌/◌, ◌%◌}
use native.Mathlib.Nat.{mul-zero, mul-suc}
use native.Mathlib.Numerals.{add-one}
use native.Mathlib.Omega.{arith}
use lib.Dec.{T, ltb, lt→ltb}
use lib.ListN.{length, length-append}
use Rattle.algebra.proofs.All.{all-append}
use Rattle.algebra.proofs.Test.{and_intro}
use Rattle.algebra.specs.All.{are_below}
use Rattle.encoding.specs.Bytes.{big_endian, encoded}

pub length_bytes : (w v : ℕ) → length (big_endian w v) ≡ w
unfolding big_endian
length_bytes zero v = refl
length_bytes (suc w) v = length-append (big_endian w (v / 256)) (v % 256 ∷ []) ∙ add-one (length (big_endian w (v / 256))) ∙ ap suc (length_bytes w (v / 256))

pub length-encoded : (w : ℕ) (vs : List ℕ) → length (encoded w vs) ≡ w * length vs
unfolding encoded flatten
length-encoded w [] = sym (mul-zero w)
length-encoded w (v ∷ vs) = length-append (big_endian w v) (encoded w vs) ∙ omega (arith, length_bytes w v, length-encoded w vs, mul-suc w (length vs))

pub flatten-append : {A : Type 0} (ls ms : List (List A)) → flatten (ls ++ ms) ≡ flatten ls ++ flatten ms
unfolding flatten
flatten-append [] ms = refl
flatten-append {A} (l ∷ ls) ms = ap (λ (r : List A). l ++ r) (flatten-append ls ms) ∙ sym (append_assoc l (flatten ls) (flatten ms))

-- ---- what is written is bytes

pub below_append : (xs ys : List ℕ) → T (are_below 256 xs) → T (are_below 256 ys) → T (are_below 256 (xs ++ ys))
below_append xs ys s t = rw (all-append (λ (x : ℕ). ltb x 256) xs ys) (and_intro (are_below 256 xs) (are_below 256 ys) s t)

bytes_below : (w v : ℕ) → T (are_below 256 (big_endian w v))
unfolding big_endian
bytes_below zero v = tt
bytes_below (suc w) v =
    below_append (big_endian w (v / 256)) (v % 256 ∷ []) (bytes_below w (v / 256)) (and_intro (ltb (v % 256) 256) _ (lt→ltb (v % 256) 256 (omega arith)) tt)

pub encoded_below : (w : ℕ) (vs : List ℕ) → T (are_below 256 (encoded w vs))
unfolding encoded flatten
encoded_below w [] = tt
encoded_below w (v ∷ vs) = below_append (big_endian w v) (encoded w vs) (bytes_below w v) (encoded_below w vs)
