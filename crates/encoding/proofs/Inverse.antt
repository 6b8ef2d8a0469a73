-- Numbers written and read back, and bytes read and written back, at any width.
-- Assumes nothing.
use mathlib.Core.Path.{◌≡◌, refl, sym, ap, ap₂, ◌∙◌}
use mathlib.Core.Bool.{Bool}
use mathlib.Core.List.{List, [], ◌∷◌, ◌++◌, map, append_assoc, append-nil, flatten}
use Prim.Native.Nat.{ℕ, zero, suc, ◌+◌, ◌-◌, ◌*◌, ◌/◌, ◌%◌, ◌^◌, ◌≤◌, ◌<◌}
use native.Mathlib.Nat.{mul-zero, mul-suc, add_comm, pow-zero, pow-suc, div-add-mod', div-lt_iff_lt-mul}
use native.Mathlib.Omega.{arith}
use lib.Arith.{digits_lt, digits_div, digits_mod}
use lib.Dec.{T, ltb, ltb→lt, lt→ltb, lit<}
use lib.IntN.{ℤ, pos, negsuc}
use lib.ListN.{length, get_or, take, drop, length-drop, take-append-drop}
use lib.Seq.{take-suc, take-add, take_at, drop_at, take_all}
use lib.Signed.{mag}
use Rattle.algebra.specs.All.{all, are_below}
use Rattle.algebra.proofs.All.{all-drop, below_at}
use Rattle.algebra.proofs.Test.{and_left, and_right, and_intro, by_test}
use Rattle.encoding.specs.Bytes.{big_endian, value_after, value_of, numbers, encoded, bits16, signed16}
use Rattle.encoding.proofs.Writing.{length_bytes, length-encoded}

-- ---- lists

-- a map that another takes back wherever a test holds
module _ {A B : Type 0} (f : A → B) (g : B → A) (test : A → Bool) (back : (a : A) → T (test a) → g (f a) ≡ a) where
  pub map_back : (l : List A) → T (all test l) → map g (map f l) ≡ l
  map_back [] t = refl
  map_back (a ∷ l) t = ap₂ (λ (x : A) (xs : List A). x ∷ xs) (back a (and_left (test a) (all test l) t)) (map_back l (and_right (test a) (all test l) t))

-- ---- a number

value_append : (v : ℕ) (xs : List ℕ) (x : ℕ) → value_after v (xs ++ (x ∷ [])) ≡ value_after v xs * 256 + x
value_append v [] x = refl
value_append v (y ∷ ys) x = value_append (v * 256 + y) ys x

value_of_bytes : (w v : ℕ) → v < 256 ^ w → value_of (big_endian w v) ≡ v
unfolding big_endian
value_of_bytes zero v h = omega (arith, pow-zero 256)
value_of_bytes (suc w) v h =
    let l : v / 256 < 256 ^ w = (div-lt_iff_lt-mul {k = 256} (lit< tt)).1 (rw (pow-suc 256 w) at h) in
    value_append 0 (big_endian w (v / 256)) (v % 256) ∙ ap (λ (x : ℕ). x * 256 + v % 256) (value_of_bytes w (v / 256) l) ∙ div-add-mod' v 256

bytes_of_value : (w : ℕ) (xs : List ℕ) → w ≤ length xs → T (are_below 256 xs) → big_endian w (value_of (take w xs)) ≡ take w xs
unfolding big_endian
bytes_of_value zero xs h t = refl
bytes_of_value (suc w) xs h t =
    let x : ℕ = get_or xs w 0 in
    let v : ℕ = value_of (take w xs) in
    let b : x < 256 = below_at 256 xs t w h in
    let e : value_of (take (suc w) xs) ≡ v * 256 + x = ap value_of (take-suc xs w 0 h) ∙ value_append 0 (take w xs) x in
    ap (big_endian (suc w)) e
    ∙ ap₂ (λ (q r : ℕ). big_endian w q ++ (r ∷ [])) (digits_div v b) (digits_mod v b)
    ∙ ap (λ (l : List ℕ). l ++ (x ∷ [])) (bytes_of_value w xs (omega arith) t) ∙ sym (take-suc xs w 0 h)

value_below : (w : ℕ) (xs : List ℕ) → w ≤ length xs → T (are_below 256 xs) → value_of (take w xs) < 256 ^ w
value_below zero xs h t = omega (arith, pow-zero 256)
value_below (suc w) xs h t =
    rw (take-suc xs w 0 h, value_append 0 (take w xs) (get_or xs w 0), pow-suc 256 w)
    (digits_lt (value_below w xs (omega arith) t) (below_at 256 xs t w h))

-- ---- lists of numbers

module _ (w : ℕ) where
  pub numbers_of_encoded : (vs rest : List ℕ) → T (are_below (256 ^ w) vs) → numbers w (length vs) (encoded w vs ++ rest) ≡ vs
  unfolding numbers encoded flatten
  numbers_of_encoded [] rest t = refl
  numbers_of_encoded (v ∷ vs) rest t =
      let b : List ℕ = big_endian w v in
      let more : List ℕ = encoded w vs ++ rest in
      let f : T (ltb v (256 ^ w)) = and_left (ltb v (256 ^ w)) (are_below (256 ^ w) vs) t in
      ap (λ (l : List ℕ). numbers w (suc (length vs)) l) (append_assoc b (encoded w vs) rest)
      ∙ ap₂ (λ (x y : List ℕ). value_of x ∷ numbers w (length vs) y) (take_at b more w (length_bytes w v)) (drop_at b more w (length_bytes w v))
      ∙ ap₂ (λ (x : ℕ) (l : List ℕ). x ∷ l) (value_of_bytes w v (ltb→lt v (256 ^ w) f))
      (numbers_of_encoded vs rest (and_right (ltb v (256 ^ w)) (are_below (256 ^ w) vs) t))

  pub encoded_of_numbers : (count : ℕ) (xs : List ℕ) → w * count ≤ length xs → T (are_below 256 xs) → encoded w (numbers w count xs) ≡ take (w * count) xs
  unfolding numbers encoded flatten
  encoded_of_numbers zero xs h t = rw (mul-zero w)
  encoded_of_numbers (suc n) xs h t =
      let e : w * suc n ≡ w + w * n = mul-suc w n ∙ add_comm (w * n) w in
      ap₂ (λ (x y : List ℕ). x ++ y) (bytes_of_value w xs (omega arith) t)
      (encoded_of_numbers n (drop w xs) (omega (arith, length-drop w xs)) (all-drop (λ (y : ℕ). ltb y 256) w xs t))
      ∙ sym (ap (λ (k : ℕ). take k xs) e ∙ take-add w (w * n) xs)

  pub numbers_below : (count : ℕ) (xs : List ℕ) → w * count ≤ length xs → T (are_below 256 xs) → T (are_below (256 ^ w) (numbers w count xs))
  unfolding numbers
  numbers_below zero xs h t = tt
  numbers_below (suc n) xs h t =
      let e : w * suc n ≡ w + w * n = mul-suc w n ∙ add_comm (w * n) w in
      and_intro (ltb (value_of (take w xs)) (256 ^ w)) (are_below (256 ^ w) (numbers w n (drop w xs)))
      (lt→ltb (value_of (take w xs)) (256 ^ w) (value_below w xs (omega arith) t))
      (numbers_below n (drop w xs) (omega (arith, length-drop w xs)) (all-drop (λ (y : ℕ). ltb y 256) w xs t))

-- ---- one list after another: m numbers of u bytes, then k of w bytes

module _ (u m w k : ℕ) where
  pub read_first : (a rest : List ℕ) → length a ≡ m → T (are_below (256 ^ u) a) → numbers u m (encoded u a ++ rest) ≡ a
  read_first a rest l t = rw (← l) (numbers_of_encoded u a rest t)

  pub read_second : (a b : List ℕ) → length a ≡ m → length b ≡ k → T (are_below (256 ^ w) b) → numbers w k (drop (u * m) (encoded u a ++ encoded w b)) ≡ b
  read_second a b l h t =
      ap (numbers w k) (drop_at (encoded u a) (encoded w b) (u * m) (length-encoded u a ∙ ap (λ (x : ℕ). u * x) l) ∙ sym (append-nil (encoded w b)))
      ∙ ap (λ (x : ℕ). numbers w x (encoded w b ++ [])) (sym h) ∙ numbers_of_encoded w b [] t

  pub written_both : (xs : List ℕ) → length xs ≡ u * m + w * k → T (are_below 256 xs)
      → encoded u (numbers u m xs) ++ encoded w (numbers w k (drop (u * m) xs)) ≡ xs
  written_both xs l t =
      let d : length (drop (u * m) xs) ≡ w * k = omega (arith, length-drop (u * m) xs) in
      ap₂ (λ (x y : List ℕ). x ++ y) (encoded_of_numbers u m xs (omega arith) t)
      (encoded_of_numbers w k (drop (u * m) xs) (omega arith) (all-drop (λ (y : ℕ). ltb y 256) (u * m) xs t) ∙ take_all (w * k) (drop (u * m) xs) (omega arith))
      ∙ take-append-drop (u * m) xs

-- ---- signed numbers

pub bits_of_signed : (v : ℕ) → T (ltb v 65536) → bits16 (signed16 v) ≡ v
bits_of_signed v t =
    let h : v < 65536 = ltb→lt v 65536 t in
    by_test (ltb v 32768) (λ e. rw e) (λ e. rw e (omega arith))

pub bits_below : (z : ℤ) → T (ltb (mag z) 32768) → T (ltb (bits16 z) 65536)
bits_below (pos n) t = lt→ltb n 65536 (omega (arith, ltb→lt n 32768 t))
bits_below (negsuc n) t = lt→ltb (65535 - n) 65536 (omega arith)
