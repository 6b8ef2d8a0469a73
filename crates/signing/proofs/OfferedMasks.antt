-- Masks that lie one after the other: how many there are, each by its number, where it ends and how long it is.
-- Assumes nothing.
use mathlib.Core.Path.{◌≡◌, ap}
use mathlib.Core.List.{List, []}
use Prim.Native.Nat.{ℕ, ◌+◌, ◌-◌, ◌*◌, ◌≤◌, ◌<◌}
use native.Mathlib.Nat.{suc-mul, mul-le-mul_right, div-mul-le_self}
use native.Mathlib.Omega.{arith}
use lib.IntN.{ℤ}
use lib.ListN.{length, get_or, take, drop, length-drop}
use lib.Seq.{length-take-le}
use Rattle.parameters.specs.declared.Params.{Params}
use Rattle.encoding.proofs.Parts.{length-parts, parts_at}
use Rattle.signing.specs.Signer.{offered_count, masks_of, mask_at}

module _ (p : Params) (masks : List ℤ) where
  pub masks_count : length (masks_of p masks) ≡ offered_count p masks
  masks_count = length-parts p.n (offered_count p masks) masks

  pub mask_at_lem : (i : ℕ) → i < offered_count p masks → get_or (masks_of p masks) i [] ≡ mask_at p masks i
  mask_at_lem = parts_at p.n (offered_count p masks) masks

  pub mask_end : (i : ℕ) → i < offered_count p masks → i * p.n + p.n ≤ length masks
  mask_end i h = omega (arith, mul-le-mul_right p.n h, div-mul-le_self (length masks) p.n, suc-mul i p.n)

  pub mask_size : (i : ℕ) → i < offered_count p masks → length (mask_at p masks i) ≡ p.n
  mask_size i h = length-take-le p.n (drop (i * p.n) masks) (omega (arith, length-drop (i * p.n) masks, mask_end i h))

  -- from its start to its end
  pub mask_between : (i : ℕ) → take (i * p.n + p.n - i * p.n) (drop (i * p.n) masks) ≡ mask_at p masks i
  mask_between i = let e : i * p.n + p.n - i * p.n ≡ p.n = omega arith in ap (λ (n : ℕ). take n (drop (i * p.n) masks)) e
