-- The tests of the check as propositions: polynomials pass `equal` exactly where they are equal, a challenge passes `is_drawn` exactly where it is the
-- drawn one.
-- Assumes nothing.
use mathlib.Core.Path.{◌≡◌, refl, ap, ap₂, subst}
use mathlib.Core.Bool.{true}
use mathlib.Core.List.{List, [], ◌∷◌}
use mathlib.Core.Logic.{◌↔◌}
use mathlib.Core.Option.{Option, none, some}
use lib.Dec.{T, eqb→eq, eqb_refl}
use lib.IntN.{ℤ, pos, negsuc}
use Rattle.algebra.proofs.Test.{and_left, and_right, and_intro, holds_true, true_holds}
use Rattle.scheme.specs.Scheme.{equal_ℤ, equal, is_drawn}

equal_ℤ_sound : (a b : ℤ) → T (equal_ℤ a b) → a ≡ b
equal_ℤ_sound (pos a) (pos b) t = ap pos (eqb→eq a b t)
equal_ℤ_sound (pos a) (negsuc b) t = absurd t
equal_ℤ_sound (negsuc a) (pos b) t = absurd t
equal_ℤ_sound (negsuc a) (negsuc b) t = ap negsuc (eqb→eq a b t)

equal_ℤ_refl : (a : ℤ) → T (equal_ℤ a a)
equal_ℤ_refl (pos a) = eqb_refl a
equal_ℤ_refl (negsuc a) = eqb_refl a

equal_sound : (c d : List ℤ) → T (equal c d) → c ≡ d
equal_sound [] [] t = refl
equal_sound [] (b ∷ d) t = absurd t
equal_sound (a ∷ c) [] t = absurd t
equal_sound (a ∷ c) (b ∷ d) t =
    ap₂ ◌∷◌ (equal_ℤ_sound a b (and_left (equal_ℤ a b) (equal c d) t)) (equal_sound c d (and_right (equal_ℤ a b) (equal c d) t))

equal_refl : (c : List ℤ) → T (equal c c)
equal_refl [] = tt
equal_refl (a ∷ c) = and_intro (equal_ℤ a a) (equal c c) (equal_ℤ_refl a) (equal_refl c)

pub equal_iff : (c d : List ℤ) → (equal c d ≡ true) ↔ (c ≡ d)
equal_iff c d = (
  λ e. equal_sound c d (true_holds e),
  λ e. subst (λ (x : List ℤ). equal c x ≡ true) e (holds_true (equal c c) (equal_refl c)),
)

drawn_sound : (o : Option (List ℤ)) (c : List ℤ) → T (is_drawn o c) → o ≡ some c
drawn_sound none c t = absurd t
drawn_sound (some d) c t = ap some (equal_sound d c t)

pub is_drawn_iff : (o : Option (List ℤ)) (c : List ℤ) → T (is_drawn o c) ↔ (o ≡ some c)
is_drawn_iff o c = (drawn_sound o c, λ e. rw e (equal_refl c))
