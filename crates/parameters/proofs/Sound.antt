-- Each of the five sets is sound, and the code has room for it; the sizes of any byte's numbers are within the limits. One computed test of each over the
-- whole table of sets.
-- Assumes nothing.
use mathlib.Core.Path.{◌≡◌, sym, subst}
use mathlib.Core.Bool.{Bool, true}
use mathlib.Core.List.{List, [], ◌∷◌}
use mathlib.Core.Logic.{⊎_elim}
use Prim.Native.Nat.{ℕ, ◌%◌, ◌<◌, ◌≤◌}
use lib.Dec.{T, eqb, ltb→lt, leb→le, eqb→eq}
use lib.ListN.{length, get_or, get_or-eq_default}
use Rattle.algebra.specs.All.{all}
use Rattle.algebra.proofs.All.{all_at}
use Rattle.algebra.proofs.Test.{lt_or_le}
use Rattle.parameters.specs.declared.Params.{Params}
use Rattle.parameters.specs.Sets.{row, sets, set_of}
use Rattle.parameters.specs.Sound.{hold, Sound, sound_tests, Fitting, fitting_tests, Limited, limited_tests}

-- of tests that all hold, each
pub of_all : (ts : List Bool) → T (hold ts) → (k : ℕ) → k < length ts → T (get_or ts k true)
of_all ts t = all_at (λ (b : Bool). b) ts true t

sound_of_test : (p : Params) → T (hold (sound_tests p)) → Sound p
sound_of_test p t = record {
  modulus = ltb→lt 1 p.q (of_all (sound_tests p) t 0 (ltb→lt 0 3 tt));
  cyclic = eqb→eq _ 1 (of_all (sound_tests p) t 1 (ltb→lt 1 3 tt));
  room = leb→le p.b p.k (of_all (sound_tests p) t 2 (ltb→lt 2 3 tt));
}

fitting_of_test : (p : Params) → T (hold (fitting_tests p)) → Fitting p
fitting_of_test p t = record {
  size = leb→le p.n _ (of_all (fitting_tests p) t 0 (ltb→lt 0 5 tt));
  modulus = ltb→lt p.q _ (of_all (fitting_tests p) t 1 (ltb→lt 1 5 tt));
  mask = ltb→lt p.k _ (of_all (fitting_tests p) t 2 (ltb→lt 2 5 tt));
  weight = leb→le p.b _ (of_all (fitting_tests p) t 3 (ltb→lt 3 5 tt));
  exponents = ltb→lt p.t p.n (of_all (fitting_tests p) t 4 (ltb→lt 4 5 tt));
}

limited_of_test : (p : Params) → T (hold (limited_tests p)) → Limited p
limited_of_test p t = record {
  size = leb→le p.n _ (of_all (limited_tests p) t 0 (ltb→lt 0 3 tt));
  weight = leb→le p.b _ (of_all (limited_tests p) t 1 (ltb→lt 1 3 tt));
  count = leb→le p.t _ (of_all (limited_tests p) t 2 (ltb→lt 2 3 tt));
}

-- what tests say of each of the five
in_table : (tests : Params → List Bool) → T (all (λ (p : Params). hold (tests p)) sets) → (s : ℕ) → s < 5 → T (hold (tests (set_of s)))
unfolding set_of sets
in_table tests t s h = all_at (λ (p : Params). hold (tests p)) sets (row 0 0 0 0 0 0) t s h

-- a byte that is no set
pub no_set : (s : ℕ) → 5 ≤ s → set_of s ≡ row 0 0 0 0 0 0
unfolding set_of sets
no_set s h = get_or-eq_default sets (row 0 0 0 0 0 0) h

pub set_sound : (s : ℕ) → s < 5 → Sound (set_of s)
unfolding sets
set_sound s h = sound_of_test (set_of s) (in_table sound_tests tt s h)

pub set_fitting : (s : ℕ) → s < 5 → Fitting (set_of s)
unfolding sets
set_fitting s h = fitting_of_test (set_of s) (in_table fitting_tests tt s h)

-- the modulus of each is odd
pub set_odd : (s : ℕ) → s < 5 → (set_of s).q % 2 ≡ 1
unfolding sets
set_odd s h =
    let tests : Params → List Bool = λ (p : Params). eqb (p.q % 2) 1 ∷ [] in
    eqb→eq ((set_of s).q % 2) 1 (of_all (tests (set_of s)) (in_table tests tt s h) 0 (ltb→lt 0 1 tt))

pub set_limited : (s : ℕ) → Limited (set_of s)
unfolding sets
set_limited s =
    ⊎_elim (λ (h : s < 5). limited_of_test (set_of s) (in_table limited_tests tt s h))
    (λ (h : 5 ≤ s). subst Limited (sym (no_set s h)) (limited_of_test (row 0 0 0 0 0 0) tt))
    (lt_or_le s 5)
