-- The evaluations at points, read from those at all exponents.
-- Assumes nothing.
use mathlib.Core.Path.{◌≡◌, refl, sym, ap, ap₂, ◌∙◌}
use mathlib.Core.Bool.{true}
use mathlib.Core.List.{List, [], ◌∷◌, map}
use Prim.Native.Nat.{ℕ, suc, ◌+◌, ◌-◌, ◌<◌, ◌≤◌}
use native.Mathlib.Omega.{arith}
use lib.IntN.{ℤ, pos}
use lib.ListN.{length, get_or}
use lib.Seq.{ext_get_or}
use Rattle.algebra.specs.Integer.{centre}
use Rattle.algebra.proofs.Congruence.{residue_below}
use Rattle.algebra.proofs.Test.{true_holds}
use Rattle.parameters.specs.declared.Params.{Params}
use Rattle.encoding.specs.Encoding.{are_exponents}
use Rattle.encoding.proofs.Testing.{increasing_below, increasing_least}
use Rattle.polynomial.specs.Evaluation.{sum_at, evaluation, evaluations, evaluation_residue, evaluation_residues}
use Rattle.transform.specs.UpFrom.{up_from}
use Rattle.transform.specs.AllExponents.{all_exponents}
use Rattle.transform.proofs.UpFrom.{up_map-length, from_zero_at, up_map_at}
use Rattle.split.specs.Levels.{UnderIn}
use Rattle.split.specs.Values.{AtExponents, Exponents}

map_same : {A : Type 0} (f g : ℕ → A) (l : List ℕ) → ((i : ℕ) → i < length l → f (get_or l i 0) ≡ g (get_or l i 0)) → map f l ≡ map g l
map_same f g [] e = refl
map_same f g (x ∷ l) e = ap₂ ◌∷◌ (e 0 (omega arith)) (map_same f g l (λ i h. e (suc i) (omega arith)))

-- increasing exponents are in 1 .. N - 1; and so below what is larger
pub exponents_of : (p : Params) (js : List ℕ) → are_exponents p js ≡ true → Exponents p.n js
exponents_of p js rise =
    record {
      positive = λ i h. increasing_least p.n 1 js (true_holds rise) i h;
      below = λ i h. increasing_below p.n 1 js (true_holds rise) i h;
    }

pub exponents_within : {n m : ℕ} {js : List ℕ} → n ≤ m → Exponents n js → Exponents m js
exponents_within le e = record { positive = e.positive; below = λ i h. omega (arith, e.below i h) }

module _ {p : Params} {f : List ℤ} {values : List ℕ} (found : AtExponents p f values) where
  pub read_residues : {js : List ℕ} → Exponents p.n js → map (λ (e : ℕ). get_or values (e - 1) 0) js ≡ evaluation_residues p f js
  unfolding evaluation_residues
  read_residues {js} in-range =
      map_same (λ (e : ℕ). get_or values (e - 1) 0) (evaluation_residue p f) js
      (λ i h. found.each (get_or js i 0) (in-range.positive i h) (in-range.below i h))

  -- in signed form
  centred_at : (e : ℕ) → 0 < e → e < p.n → centre (get_or values (e - 1) 0) p.q ≡ evaluation p f e
  unfolding evaluation evaluation_residue
  centred_at e h l = ap (λ (r : ℕ). centre r p.q) (found.each e h l)

  pub read_signed : {js : List ℕ} → Exponents p.n js → map (λ (e : ℕ). centre (get_or values (e - 1) 0) p.q) js ≡ evaluations p f js
  unfolding evaluations
  read_signed {js} in-range =
      map_same (λ (e : ℕ). centre (get_or values (e - 1) 0) p.q) (evaluation p f) js
      (λ i h. centred_at (get_or js i 0) (in-range.positive i h) (in-range.below i h))

  pub read_all : {n : ℕ} → n ≡ p.n - 1 → map (λ (i : ℕ). centre (get_or values i 0) p.q) (up_from 0 n) ≡ evaluations p f (all_exponents p)
  unfolding evaluations
  read_all {n} size =
      ext_get_or (pos 0) (map (λ (i : ℕ). centre (get_or values i 0) p.q) (up_from 0 n)) (map (evaluation p f) (up_from 1 (p.n - 1)))
      (up_map-length (λ (i : ℕ). centre (get_or values i 0) p.q) 0 n ∙ size ∙ sym (up_map-length (evaluation p f) 1 (p.n - 1)))
      (λ i h.
      let inside : i < n = omega (arith, up_map-length (λ (i : ℕ). centre (get_or values i 0) p.q) 0 n) in
      let place : i ≡ 1 + i - 1 = omega arith in
      from_zero_at (λ (i : ℕ). centre (get_or values i 0) p.q) n i (pos 0) inside
      ∙ ap (λ (x : ℕ). centre (get_or values x 0) p.q) place
      ∙ centred_at (1 + i) (omega arith) (omega (arith, size))
      ∙ sym (up_map_at (evaluation p f) 1 (p.n - 1) i (pos 0) (omega (arith, size))))

  pub values_under : 0 < p.q → UnderIn p.q values 0 (p.n - 1)
  unfolding evaluation_residue
  values_under positive =
      record {
        each = λ k h.
            let at : 0 + k ≡ 1 + k - 1 = omega arith in
            omega (arith, ap (λ (i : ℕ). get_or values i 0) at, found.each (1 + k) (omega arith) (omega arith), residue_below positive (sum_at p f (1 + k)));
      }
