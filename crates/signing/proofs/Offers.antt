-- The masks offered in turn: what signing gives from mask i on, and what one mask more decides.
-- Assumes nothing.
use mathlib.Core.Path.{◌≡◌, refl, sym, ap, ap₂, ◌∙◌}
use mathlib.Core.List.{List, ◌∷◌}
use mathlib.Core.Option.{Option, none, some}
use Prim.Native.Nat.{ℕ, suc, ◌+◌, ◌-◌, ◌*◌, ◌<◌, ◌≤◌}
use native.Mathlib.Nat.{zero-mul}
use native.Mathlib.Numerals.{add-one}
use native.Mathlib.Omega.{arith}
use lib.IntN.{ℤ}
use lib.ListN.{take, drop}
use lib.Seq.{drop-drop}
use Rattle.parameters.specs.declared.Params.{Params}
use Rattle.polynomial.specs.Evaluation.{evaluations}
use Rattle.encoding.specs.Bytes.{parts}
use Rattle.scheme.specs.Scheme.{Drawer, Signature, Signed, or_else, attempt, signing}
use Rattle.signing.specs.Found.{Parts, parts_of, found_of}
use Rattle.signing.specs.Signer.{offered_count, signed_by}
use Rattle.signing.proofs.OfferedMasks.{mask_between}

-- one mask, where i were passed over before it and those after it give `rest`: it signs, or they do
module _ (i : ℕ) (w : List ℤ) (rest : Option Signed) where
  passing : (o : Option Signature) {r : Parts} → some r ≡ parts_of o → some (i, r) ≡ found_of (or_else i w o rest)
  passing none e = cc
  passing (some s) e = cc

  failing : (o : Option Signature) → none ≡ parts_of o → or_else i w o rest ≡ rest
  failing none e = refl
  failing (some s) e = cc

-- the parts from number i on, and the first of them apart
module _ {A : Type 0} (size count : ℕ) (l : List A) where
  abbrev parts_from : ℕ → List (List A)
  parts_from i = parts size (count - i) (drop (i * size) l)

  parts_all : parts_from 0 ≡ parts size count l
  parts_all = let e : count - 0 ≡ count = omega arith in ap₂ (λ (n at : ℕ). parts size n (drop at l)) e (zero-mul size)

  parts_next : (i : ℕ) → i < count → parts_from i ≡ take size (drop (i * size) l) ∷ parts_from (i + 1)
  parts_next i h =
      let e : count - i ≡ suc (count - (i + 1)) = omega arith in
      let m : i * size + size ≡ (i + 1) * size = omega arith in
      ap (λ (n : ℕ). parts size n (drop (i * size) l)) e
      ∙ ap (λ (r : List A). take size (drop (i * size) l) ∷ parts size (count - (i + 1)) r)
      (drop-drop size (i * size) l ∙ ap (λ (at : ℕ). drop at l) m)

module _ (draw : Drawer) (p : Params) (f : List ℤ) (exponents : List ℕ) (masks : List ℤ) (message : List ℕ) where
  -- what the masks from number i on give
  abbrev pub signed_from : ℕ → Option Signed
  signed_from i = signing draw p exponents message i f (parts_from p.n (offered_count p masks) masks i)

  pub signed_all : signed_by draw p f exponents masks message ≡ signed_from 0
  unfolding signed_by
  signed_all = ap (signing draw p exponents message 0 f) (sym (parts_all p.n (offered_count p masks) masks))

  -- all masks were passed over before number i
  pub none_offered : (i : ℕ) → offered_count p masks ≤ i → signed_by draw p f exponents masks message ≡ signed_from i
      → none ≡ found_of (signed_by draw p f exponents masks message)
  none_offered i h e =
      let none_left : offered_count p masks - i ≡ 0 = omega arith in
      let none-signs = e ∙ ap (λ (n : ℕ). signing draw p exponents message i f (parts p.n n (drop (i * p.n) masks))) none_left in
      rw none-signs

  -- mask number i is tried, as the code lends it
  module _ (i : ℕ) (h : i < offered_count p masks) (e : signed_by draw p f exponents masks message ≡ signed_from i) where
    abbrev lent : List ℤ
    lent = take (i * p.n + p.n - i * p.n) (drop (i * p.n) masks)

    -- what the mask gives, its commitment, and what the masks after it give
    abbrev offer : Option Signature
    offer = attempt draw p exponents message f lent

    abbrev w : List ℤ
    w = evaluations p lent exponents

    abbrev later : Option Signed
    later = signed_from (i + 1)

    offered : signed_by draw p f exponents masks message ≡ or_else i w offer later
    offered =
        e ∙ ap (signing draw p exponents message i f) (parts_next p.n (offered_count p masks) masks i h)
        ∙ ap (λ (y : List ℤ). signing draw p exponents message i f (y ∷ parts_from p.n (offered_count p masks) masks (i + 1))) (sym (mask_between p masks i))
        ∙ ap (λ (n : ℕ). or_else i w offer (signing draw p exponents message n f (parts_from p.n (offered_count p masks) masks (i + 1)))) (sym (add-one i))

    pub passed_here : {r : Parts} → some r ≡ parts_of offer → some (i, r) ≡ found_of (signed_by draw p f exponents masks message)
    passed_here g = passing i w later offer g ∙ ap found_of (sym offered)

    pub failed_here : none ≡ parts_of offer → signed_by draw p f exponents masks message ≡ signed_from (i + 1)
    failed_here g = offered ∙ failing i w later offer g
