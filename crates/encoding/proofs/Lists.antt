-- One number more of a list, read or written.
use Rattle.std.proofs.Common.{◌≡◌, ℕ, ◌+◌, ◌-◌, ◌*◌, ◌<◌, ◌≤◌, List, [], ◌∷◌, ◌++◌, length, get_or, take, drop, map, slice_set, refl, sym, ap, ap₂, ◌∙◌, arith, append_assoc, length-append}
use Rattle.std.proofs.lemmas.List.{take_more}
use mathlib.Core.List.{map-append, append-nil, flatten}
use native.Mathlib.Nat.{mul-suc, mul_comm}
use native.Mathlib.Numerals.{add-one}
use borrow.Rule.Slice.PartMut.{put_mid}
use lib.Seq.{take_at, length-take-le}
use Rattle.algebra.proofs.List.{grow_to}
use Rattle.encoding.specs.Bytes.{big_endian, value_of, parts, numbers, encoded}
use Rattle.encoding.proofs.Parts.{parts-add}
use Rattle.encoding.proofs.Writing.{length_bytes, flatten-append}

pub numbers_none : (w : ℕ) (xs : List ℕ) → numbers w 0 xs ≡ []
unfolding numbers
numbers_none w xs = refl

pub numbers_more : (w i : ℕ) (xs : List ℕ) → numbers w (i + 1) xs ≡ numbers w i xs ++ (value_of (take w (drop (w * i) xs)) ∷ [])
unfolding numbers
numbers_more w i xs = rw (mul_comm w i) (ap (map value_of) (parts-add w i 1 xs) ∙ map-append value_of (parts w i xs) (parts w 1 (drop (i * w) xs)))

pub read_more : {A : Type 0} (f : ℕ → A) (w i v : ℕ) (bytes : List ℕ) (out : List A) (x : A) → v ≡ w → i < length out
    → x ≡ f (value_of (take (v * i + v - v * i) (drop (v * i) bytes))) → take i out ≡ map f (numbers w i bytes)
    → take (i + 1) (slice_set out i x) ≡ map f (numbers w (i + 1) bytes)
read_more f w i v bytes out x width h e done =
    let value = value_of (take w (drop (w * i) bytes)) in
    let at : v * i ≡ w * i = ap (λ n. n * i) width in
    let size : v * i + v - v * i ≡ w = omega arith in
    grow_to out i h done (e ∙ ap₂ (λ m n. f (value_of (take m (drop n bytes)))) size at)
    (ap (map f) (numbers_more w i bytes) ∙ map-append f (numbers w i bytes) (value ∷ []))

pub encoded_none : (w : ℕ) → encoded w [] ≡ []
unfolding encoded flatten
encoded_none w = refl

pub encoded-append : (w : ℕ) (xs ys : List ℕ) → encoded w (xs ++ ys) ≡ encoded w xs ++ encoded w ys
unfolding encoded
encoded-append w xs ys = ap flatten (map-append (big_endian w) xs ys) ∙ flatten-append (map (big_endian w) xs) (map (big_endian w) ys)

pub encoded-one : (w v : ℕ) → encoded w (v ∷ []) ≡ big_endian w v
unfolding encoded flatten
encoded-one w v = append-nil (big_endian w v)

pub map-one_more : {A B : Type 0} (f : A → B) (xs : List A) (i : ℕ) (x : A) → i < length xs → x ≡ get_or xs i x
    → map f (take (i + 1) xs) ≡ map f (take i xs) ++ (f x ∷ [])
map-one_more f xs i x h e = ap (map f) (take_more xs i x h ∙ ap (λ y. take i xs ++ (y ∷ [])) (sym e)) ∙ map-append f (take i xs) (x ∷ [])

pub write_more : {A : Type 0} (f : A → ℕ) (w i a k : ℕ) (values : List A) (x : A) (out ys : List ℕ)
    → i < length values → x ≡ get_or values i x → a ≡ w * i → a + w ≤ length out → ys ≡ big_endian w (f x)
    → take (w * i) out ≡ encoded w (map f (take i values))
    → take (w * (i + 1)) (put_mid a k out ys) ≡ encoded w (map f (take (i + 1) values))
write_more f w i a k values x out ys h e at room s done =
    let n : w * (i + 1) ≡ a + w = ap (λ (k : ℕ). w * k) (add-one i) ∙ mul-suc w i ∙ omega arith in
    let size : length ys ≡ w = ap length s ∙ length_bytes w (f x) in
    let front : length (take a out) ≡ a = length-take-le a out (omega arith) in
    let rest = drop k (drop a out) in
    ap (λ m. take m (take a out ++ (ys ++ rest))) n
    ∙ ap (take (a + w)) (sym (append_assoc (take a out) ys rest))
    ∙ take_at (take a out ++ ys) rest (a + w) (length-append (take a out) ys ∙ omega (arith, size, front))
    ∙ ap₂ ◌++◌ (ap (λ m. take m out) at ∙ done) (s ∙ sym (encoded-one w (f x)))
    ∙ sym (ap (encoded w) (map-one_more f values i x h e) ∙ encoded-append w (map f (take i values)) (f x ∷ []))
