-- What it is for a mask to pass, as propositions: its challenge is drawn and z = f ⋆ c + y is in range.
-- Assumes nothing.
use mathlib.Core.Path.{◌≡◌, refl, sym, ap, ◌∙◌, subst}
use mathlib.Core.Bool.{Bool, true, false, cond}
use mathlib.Core.List.{List}
use mathlib.Core.Logic.{◌↔◌}
use mathlib.Core.Option.{Option, none, some, none-ne-some, some-injective}
use Prim.Native.Nat.{ℕ, ◌-◌}
use lib.Dec.{T}
use lib.IntN.{ℤ}
use Rattle.algebra.specs.Integer.{within}
use Rattle.parameters.specs.declared.Params.{Params}
use Rattle.polynomial.specs.Polynomial.{z_of}
use Rattle.polynomial.specs.Evaluation.{evaluation_residues}
use Rattle.scheme.specs.Scheme.{Drawer, Signature, with_challenge, attempt}

-- s is the signature by key f and mask y, where o is what was drawn
pub record PassingMask (p : Params) (f y : List ℤ) (o : Option (List ℤ)) (s : Signature) : Type 0 where
  pub challenge : o ≡ some s.c
  pub is_z : s.z ≡ z_of f s.c y
  pub range : T (within (p.k - p.b) s.z)

cond_out : (t : Bool) (s r : Signature) → cond t (some s) none ≡ some r → T t × (s ≡ r)
cond_out true s r e = (tt, some-injective s r e)
cond_out false s r e = absurd (none-ne-some r e)

cond_in : (t : Bool) (s : Signature) → T t → cond t (some s) none ≡ some s
cond_in true s h = refl
cond_in false s h = absurd h

module _ (p : Params) (f y : List ℤ) where
  passes_out : (o : Option (List ℤ)) (s : Signature) → with_challenge p f y o ≡ some s → PassingMask p f y o s
  passes_out none s e = absurd (none-ne-some s e)
  passes_out (some c) s e =
      let r = cond_out (within (p.k - p.b) (z_of f c y)) (record { c = c; z = z_of f c y }) s e in
      subst (λ (u : Signature). PassingMask p f y (some c) u) r.1 (record { challenge = refl; is_z = refl; range = r.0 })

  passes_in : (o : Option (List ℤ)) (s : Signature) → PassingMask p f y o s → with_challenge p f y o ≡ some s
  passes_in o s a =
      ap (λ (v : Option (List ℤ)). with_challenge p f y v) a.challenge
      ∙ ap (λ (z : List ℤ). cond (within (p.k - p.b) z) (some (record { c = s.c; z = z })) none) (sym a.is_z)
      ∙ cond_in (within (p.k - p.b) s.z) s a.range

pub attempt_iff : (draw : Drawer) (p : Params) (exponents message : List ℕ) (f y : List ℤ) (s : Signature)
    → (attempt draw p exponents message f y ≡ some s) ↔ PassingMask p f y (draw p (evaluation_residues p y exponents) message) s
unfolding attempt
attempt_iff draw p exponents message f y s = (passes_out p f y _ s, passes_in p f y _ s)
