-- The commitment bytes as a loop writes them: the low bytes of one evaluation more.
-- Assumes nothing.
use Rattle.std.proofs.Common.{◌≡◌, ℕ, zero, suc, ◌+◌, ◌*◌, ◌/◌, ◌%◌, ◌<◌, ◌≤◌, List, [], ◌∷◌, ◌++◌, length, get_or, take, map, refl, sym, ap, ap₂, ◌∙◌, arith, append_assoc, w32}
use Rattle.std.specs.Int.{to_le_bytes}
use Rattle.std.proofs.lemmas.List.{take_more}
use Rattle.std.proofs.lemmas.Slice.{take-put_mid}
use mathlib.Core.List.{map-append, append-nil, flatten}
use native.Mathlib.Nat.{mul-zero, mul-suc}
use native.Mathlib.Numerals.{add-one}
use borrow.Rule.Slice.PartMut.{put_mid}
use Rattle.challenge.specs.Pool.{little_endian}

-- the first bytes of a number, the low byte first
low_first : (w x : ℕ) → w ≤ 3 → take w (to_le_bytes w32 x) ≡ little_endian w x
low_first zero x h = refl
low_first (suc zero) x h = refl
low_first (suc (suc zero)) x h = refl
low_first (suc (suc (suc zero))) x h = let e : x / 65536 % 256 ≡ x / 256 / 256 % 256 = omega arith in ap (λ b. x % 256 ∷ x / 256 % 256 ∷ b ∷ []) e
low_first (suc (suc (suc (suc w)))) x h = absurd (omega arith)

length_bytes : (n v : ℕ) → length (little_endian n v) ≡ n
length_bytes zero v = refl
length_bytes (suc n) v = ap suc (length_bytes n (v / 256))

flatten-append : {A : Type 0} (ls ms : List (List A)) → flatten (ls ++ ms) ≡ flatten ls ++ flatten ms
unfolding flatten
flatten-append [] ms = refl
flatten-append (l ∷ ls) ms = ap (λ r. l ++ r) (flatten-append ls ms) ∙ sym (append_assoc l (flatten ls) (flatten ms))

module _ (w : ℕ) (es : List ℕ) where
  -- those of the first i evaluations
  abbrev bytes_of : ℕ → List ℕ
  bytes_of i = flatten (map (little_endian w) (take i es))

  one_more : (i : ℕ) → i < length es → bytes_of (i + 1) ≡ bytes_of i ++ little_endian w (get_or es i 0)
  unfolding flatten
  one_more i h =
      let x = get_or es i 0 in
      ap (λ l. flatten (map (little_endian w) l)) (take_more es i 0 h)
      ∙ ap flatten (map-append (little_endian w) (take i es) (x ∷ []))
      ∙ flatten-append (map (little_endian w) (take i es)) (little_endian w x ∷ [])
      ∙ ap (λ l. bytes_of i ++ l) (append-nil (little_endian w x))

pub low_bytes_none : (w : ℕ) (bytes es : List ℕ) → take (w * 0) bytes ≡ flatten (map (little_endian w) (take 0 es))
unfolding flatten
low_bytes_none w bytes es = rw mul-zero

pub low_bytes_more : (w i k : ℕ) (es bytes number stored : List ℕ) → w ≤ 3 → i < length es → w * i + w ≤ length bytes
    → number ≡ to_le_bytes w32 (get_or es i 0) → stored ≡ take w number → take (w * i) bytes ≡ flatten (map (little_endian w) (take i es))
    → take (w * (i + 1)) (put_mid (w * i) k bytes stored) ≡ flatten (map (little_endian w) (take (i + 1) es))
low_bytes_more w i k es bytes number stored small h room is from done =
    let x = get_or es i 0 in
    let g : stored ≡ little_endian w x = from ∙ ap (take w) is ∙ low_first w x small in
    let n : w * (i + 1) ≡ w * i + length stored = ap (λ k. w * k) (add-one i) ∙ mul-suc w i ∙ omega (arith, ap length g ∙ length_bytes w x) in
    take-put_mid (w * i) k bytes stored (w * (i + 1)) n (omega arith) ∙ ap₂ ◌++◌ done g ∙ sym (one_more w es i h)
