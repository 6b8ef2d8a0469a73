-- Request #102: for every polynomial and every exponent of 1 .. N - 1, what `evaluate_all` writes for that exponent is the plain evaluation; and in the five
-- sets, which cite Rader's reordering, that is what coefficient 0 plus the cyclic convolution gives.
-- Assumes nothing.
use mathlib.Core.Path.{◌≡◌, ap, ◌∙◌}
use mathlib.Core.List.{List}
use Prim.Native.Nat.{ℕ, ◌-◌, ◌<◌}
use native.Mathlib.Omega.{arith}
use lib.IntN.{ℤ, pos}
use lib.ListN.{length, get_or}
use Rattle.parameters.specs.Sets.{set_of}
use Rattle.parameters.proofs.Sound.{set_sound}
use Rattle.polynomial.specs.Evaluation.{evaluation, evaluations}
use Rattle.transform.specs.Generator.{generator_of}
use Rattle.transform.specs.Reordering.{Reordered}
use Rattle.transform.proofs.UpFrom.{up_map_at}
use Rattle.transform.proofs.FiveSets.{set_prime, set_generator}
use Rattle.transform.proofs.Rader.{rader}
use Rattle.values.specs.EvaluateAll.{evaluate_all_refusal, evaluate_all_written}

pub all_exponents : (s : ℕ) (f out : List ℤ) → evaluate_all_refusal s f out ≡ 0
    → (j : ℕ) → 0 < j → j < (set_of s).n → get_or (evaluate_all_written s f out) (j - 1) (pos 0) ≡ evaluation (set_of s) f j
unfolding evaluate_all_written evaluations
all_exponents s f out accepted j h l =
    let e = up_map_at (evaluation (set_of s) f) 1 ((set_of s).n - 1) (j - 1) (pos 0) (omega arith) in
    rw accepted (e ∙ ap (evaluation (set_of s) f) (omega arith))

pub set_reordered : (s : ℕ) → s < 5 → (f : List ℤ) → length f ≡ (set_of s).n → (m : ℕ) → Reordered (generator_of s) (set_of s) f m
set_reordered s h = rader (set_sound s h) (set_prime s h) (set_generator s h).generator
