-- The comparison of challenges: `==` on slices says what `equal` does.
-- Assumes nothing.
use Rattle.std.proofs.Common.{◌≡◌, Bool, true, false, List, ℤ, refl, sym}
use Rattle.std.specs.Ordering.{int_eq}
use Rattle.std.specs.Cmp.Lexicographic.{pointwise}
use Rattle.std.proofs.lemmas.Bool.Decides.{Decides-int_eq}
use Rattle.std.proofs.lemmas.Slice.Eq.{slice_eq-Decides}
use Rattle.scheme.specs.Scheme.{equal}
use Rattle.scheme.proofs.Equal.{equal_iff}

same_test : (s t : Bool) → (s ≡ true → t ≡ true) → (t ≡ true → s ≡ true) → s ≡ t
same_test true t f g = sym (f refl)
same_test false true f g = g refl
same_test false false f g = refl

pub slices_equal : (c d : List ℤ) → pointwise int_eq c d ≡ equal c d
slices_equal c d =
    let decides = slice_eq-Decides Decides-int_eq c d (pointwise int_eq c d) refl in
    same_test (pointwise int_eq c d) (equal c d) (λ e. (equal_iff c d).1 (decides.0 e)) (λ e. decides.1 ((equal_iff c d).0 e))
