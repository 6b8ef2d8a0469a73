-- Masks of n numbers one behind the other: one stored behind those that are held, which counts or does not, and the first of them left out.
-- Assumes nothing.
use mathlib.Core.Path.{◌≡◌}
use mathlib.Core.List.{List, [], ◌∷◌, ◌++◌}
use Prim.Native.Nat.{ℕ, ◌+◌, ◌-◌, ◌*◌, ◌≤◌}
use native.Mathlib.Nat.{mul-le-mul}
use native.Mathlib.Omega.{arith}
use lib.IntN.{ℤ}
use lib.ListN.{length, drop}
use borrow.Rule.Slice.PartMut.{put_mid}
use Rattle.std.specs.List.{copy_within}
use Rattle.encoding.specs.Bytes.{parts}
use Rattle.encoding.proofs.Parts.{length-parts, parts_front, parts_more, parts_none, parts_left}
use Rattle.parameters.specs.Limits.{max_n, max_masks}
use Rattle.session_commands.specs.Room.{mask_room}

pub room : (count n : ℕ) → count ≤ max_masks → n ≤ max_n → count * n ≤ mask_room
room count n h k = mul-le-mul h k

pub counted : (n count : ℕ) (ys : List ℤ) → length (parts n count ys) ≡ count
counted n count ys = length-parts n count ys

-- one behind the others that does not count means nothing
pub beside : (n count width : ℕ) (ys mask : List ℤ) → count ≤ max_masks → n ≤ max_n → length ys ≡ mask_room
    → parts n count (put_mid (count * n) width ys mask) ≡ parts n count ys
beside n count width ys mask h k size =
    parts_front n count ys (mask ++ drop width (drop (count * n) ys)) (omega (arith, room count n h k))

-- one more
pub one_more : (n count width : ℕ) (ys mask : List ℤ) → count ≤ max_masks → n ≤ max_n → length ys ≡ mask_room → length mask ≡ n
    → parts n (count + 1) (put_mid (count * n) width ys mask) ≡ parts n count ys ++ (mask ∷ [])
one_more n count width ys mask h k size e = parts_more n count width ys mask (omega (arith, room count n h k)) e

-- all of them left out
pub none_left : (n count used : ℕ) (ys : List ℤ) → count ≤ used → drop used (parts n count ys) ≡ []
none_left n count used ys h = parts_none n count used ys h

-- the first of them left out, and the others moved to the front
pub moved : (n count used : ℕ) (ys : List ℤ) → used ≤ count → count ≤ max_masks → n ≤ max_n → length ys ≡ mask_room
    → parts n (count - used) (copy_within ys (used * n) (count * n) 0) ≡ drop used (parts n count ys)
moved n count used ys h few k size =
    parts_left n count used ys (drop (0 + (count * n - used * n)) ys) h (omega (arith, room count n few k))
