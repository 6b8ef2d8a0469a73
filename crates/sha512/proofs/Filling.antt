-- The blocks that the code fills: bytes put into a block, and the one or two blocks that end a message; and the bytes of a digest.
-- Assumes nothing.
use Rattle.std.proofs.Common.{◌≡◌, ℕ, ◌+◌, ◌-◌, ◌*◌, ◌/◌, ◌%◌, ◌^◌, ◌<◌, ◌≤◌, List, [], ◌∷◌, ◌++◌, length, take, drop, replicate, w64, get_or, refl, sym, ap, ◌∙◌, ap₂, append_assoc, append-nil, shr-shr, add-one, arith, length-append, drop_of_length-le, take_at, drop_at}
use Rattle.std.proofs.lemmas.List.{length-replicate, replicate-append-replicate, drop-drop, drop-replicate}
use Rattle.std.proofs.lemmas.Slice.{take-put_mid}
use Rattle.std.specs.Int.{w128, to_be_bytes}
use borrow.Rule.Slice.PartMut.{put_mid}
use Rattle.sha512.specs.Bytes.{bytes16}
use Rattle.sha512.specs.Padding.{zeros, ending}
use Rattle.sha512.specs.Digest.{bytes_of}

-- ---- bytes put into a block

-- x stands in front of zeros, and y after it
pub filled_is : (f b x y : List ℕ) → length f + length b ≤ 128 → x ≡ f → y ≡ b
    → put_mid (length f) (length f + length b - length f) (x ++ drop (length f) (replicate 128 0)) y ≡ f ++ b ++ replicate (128 - (length f + length b)) 0
filled_is f b x y h e g =
    let k : length f + (length f + length b - length f) ≡ length f + length b = omega arith in
    rw (
      e,
      g,
      take_at {A = ℕ} f (drop (length f) (replicate 128 0)) (length f) refl,
      drop_at {A = ℕ} f (drop (length f) (replicate 128 0)) (length f) refl,
      drop-drop {A = ℕ} (length f + length b - length f) (length f) (replicate 128 0),
      k,
      drop-replicate {X = ℕ} (length f + length b) 128 0,
    )
    (sym (append_assoc f b _))

-- a number as sixteen bytes is its two words as eight
bytes16_is : (n : ℕ) → to_be_bytes w128 n ≡ bytes16 n
unfolding bytes16
bytes16_is n =
    let b7 : n / 2 ^ 56 % 256 ≡ n % 2 ^ 64 / 2 ^ 56 % 256 = omega arith in
    let b6 : n / 2 ^ 48 % 256 ≡ n % 2 ^ 64 / 2 ^ 48 % 256 = omega arith in
    let b5 : n / 2 ^ 40 % 256 ≡ n % 2 ^ 64 / 2 ^ 40 % 256 = omega arith in
    let b4 : n / 2 ^ 32 % 256 ≡ n % 2 ^ 64 / 2 ^ 32 % 256 = omega arith in
    let b3 : n / 2 ^ 24 % 256 ≡ n % 2 ^ 64 / 2 ^ 24 % 256 = omega arith in
    let b2 : n / 2 ^ 16 % 256 ≡ n % 2 ^ 64 / 2 ^ 16 % 256 = omega arith in
    let b1 : n / 2 ^ 8 % 256 ≡ n % 2 ^ 64 / 2 ^ 8 % 256 = omega arith in
    let b0 : n % 256 ≡ n % 2 ^ 64 % 256 = omega arith in
    rw (shr-shr n 64 56, shr-shr n 64 48, shr-shr n 64 40, shr-shr n 64 32, shr-shr n 64 24, shr-shr n 64 16, shr-shr n 64 8) cc

-- the length in bits at a block's end
pub with_length_is : (block bits : List ℕ) (n : ℕ) → length block ≡ 128 → bits ≡ to_be_bytes w128 n → put_mid 112 16 block bits ≡ take 112 block ++ bytes16 n
with_length_is block bits n l e =
    let none : drop 16 (drop 112 block) ≡ [] = drop-drop 16 112 block ∙ drop_of_length-le block {i = 128} (omega arith) in
    rw (none, append-nil, e, bytes16_is n)

-- the bytes of one word more
pub bytes_more : (out h x : List ℕ) (i : ℕ) → length out ≡ 64 → i < 8 → take (8 * i) out ≡ bytes_of i h → x ≡ to_be_bytes w64 (get_or h i 0)
    → take (8 * (i + 1)) (put_mid (8 * i) (8 * i + 8 - 8 * i) out x) ≡ bytes_of (i + 1) h
unfolding bytes_of
bytes_more out h x i l b e q =
    let n : 8 * (i + 1) ≡ 8 * i + length x = omega (arith, ap length q) in
    take-put_mid (8 * i) (8 * i + 8 - 8 * i) out x (8 * (i + 1)) n (omega arith) ∙ rw add-one (ap₂ (λ (s t : List ℕ). s ++ t) e q)

-- ---- the blocks that end a message of n bytes, of which the whole blocks leave t

module _ (t : List ℕ) (n : ℕ) (left : length t ≡ n % 128) where
  marked : List ℕ
  marked = t ++ (0x80 ∷ [])

  length-marked : length marked ≡ length t + 1
  unfolding marked
  length-marked = length-append t (0x80 ∷ [])

  -- the zeros in z bytes are those of the padding
  end_is : (z : ℕ) → zeros n ≡ z → marked ++ replicate z 0 ++ bytes16 (8 * n) ≡ t ++ ending n
  unfolding marked ending
  end_is z e = rw (e, append_assoc, append_assoc)

  -- room for the length in the block of the tail
  pub end_short : length t < 112 → take 112 (t ++ (0x80 ∷ []) ++ replicate (128 - (length t + 1)) 0) ++ bytes16 (8 * n) ≡ t ++ ending n
  unfolding marked zeros
  end_short h =
      let k : ℕ = 111 - length t in
      let e : 128 - (length t + 1) ≡ k + 16 = omega arith in
      let l : length (marked ++ replicate k 0) ≡ 112 = length-append marked (replicate k 0) ∙ omega (arith, length-marked, length-replicate {A = ℕ} k 0) in
      ap (λ (z : ℕ). take 112 (marked ++ replicate z 0) ++ bytes16 (8 * n)) e
      ∙ ap (λ (r : List ℕ). take 112 (marked ++ r) ++ bytes16 (8 * n)) (sym (replicate-append-replicate k 16 0))
      ∙ ap (λ (r : List ℕ). take 112 r ++ bytes16 (8 * n)) (sym (append_assoc marked (replicate k 0) (replicate 16 0)))
      ∙ ap (λ (r : List ℕ). r ++ bytes16 (8 * n)) (take_at (marked ++ replicate k 0) (replicate 16 0) 112 l)
      ∙ end_is k (omega arith)

  -- no room for it: two blocks
  pub end_long : 112 ≤ length t → (t ++ (0x80 ∷ []) ++ replicate (128 - (length t + 1)) 0) ++ (replicate 112 0 ++ bytes16 (8 * n)) ≡ t ++ ending n
  unfolding marked zeros
  end_long h =
      let k : ℕ = 128 - (length t + 1) in
      sym (append_assoc (marked ++ replicate k 0) (replicate 112 0) (bytes16 (8 * n)))
      ∙ ap (λ (r : List ℕ). r ++ bytes16 (8 * n))
      (append_assoc marked (replicate k 0) (replicate 112 0) ∙ ap (λ (r : List ℕ). marked ++ r) (replicate-append-replicate k 112 0))
      ∙ end_is (k + 112) (omega arith)
