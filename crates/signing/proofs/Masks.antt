-- Masks that lie one after the other: how large each is, and one offered alone.
-- Assumes nothing.
use mathlib.Core.Path.{◌≡◌, ap, ◌∙◌}
use mathlib.Core.List.{List, [], ◌∷◌}
use Prim.Native.Nat.{ℕ, ◌*◌, ◌/◌, ◌<◌}
use native.Mathlib.Nat.{div_self, le_of_eq}
use lib.Dec.{T}
use lib.IntN.{ℤ}
use lib.ListN.{length, drop}
use lib.Seq.{take_all}
use Rattle.algebra.specs.Integer.{within}
use Rattle.parameters.specs.declared.Params.{Params}
use Rattle.polynomial.proofs.Bound.{within-take, within-drop}
use Rattle.encoding.specs.Bytes.{parts}
use Rattle.signing.specs.Signer.{masks_of, mask_at}

pub mask_small : (p : Params) (masks : List ℤ) → T (within p.k masks) → (i : ℕ) → T (within p.k (mask_at p masks i))
mask_small p masks t i = within-take p.k p.n (drop (i * p.n) masks) (within-drop p.k (i * p.n) masks t)

-- one mask is one part
pub mask_alone : (p : Params) (y : List ℤ) → 0 < p.n → length y ≡ p.n → masks_of p y ≡ y ∷ []
mask_alone p y h e =
    ap (λ (m : ℕ). parts p.n m y) (ap (λ (m : ℕ). m / p.n) e ∙ div_self h)
    ∙ ap (λ (l : List ℤ). l ∷ []) (take_all p.n y (le_of_eq e))
