-- What the three stages ask of their tables has two parts of which it is not plain that they have one proof at most: a power of two, and two cases.
-- Assumes nothing.
use Rattle.std.specs.Prelude.{◌≡◌, ◌⊎◌, ℕ, ◌^◌, ◌<◌, T, eqb}
use Rattle.std.proofs.Math.Path.{sym, ap, ◌∙◌, subst}
use Rattle.std.proofs.Math.Logic.{inl, inr, ⊎_elim}
use mathlib.Core.HLevel.{Σ_prop_path}
use Rattle.std.proofs.Math.Nat.{lt_irrefl, ℕ_set}
use Rattle.std.proofs.lemmas.Bool.{cases_order}
use Rattle.std.proofs.lemmas.Nat.{pow_below}
use Rattle.split_tables.specs.Split.{PowerOfTwo}

exponent_once : (a b : ℕ) → 2 ^ a ≡ 2 ^ b → a ≡ b
exponent_once a b e =
    ⊎_elim (λ same. same)
    (⊎_elim (λ less. absurd (lt_irrefl _ (subst (λ (x : ℕ). x < 2 ^ b) e (pow_below a b less))))
    (λ less. absurd (lt_irrefl _ (subst (λ (x : ℕ). 2 ^ b < x) e (pow_below b a less))))) (cases_order a b)

pub power_once : (x : ℕ) → IsProp (PowerOfTwo x)
power_once x p q =
    ap (λ (s : (e : ℕ) × x ≡ 2 ^ e). record { exponent = s.0; is = s.1 })
    (Σ_prop_path (λ (e : ℕ). ℕ_set x (2 ^ e)) (exponent_once p.exponent q.exponent (sym p.is ∙ q.is)))

apart : {s : ℕ} → s ≡ 1 → s ≡ 3 → ⊥
apart one three = subst (λ (n : ℕ). T (eqb n 1)) (sym one ∙ three) tt

pub start_once : (s : ℕ) → IsProp ((s ≡ 1) ⊎ (s ≡ 3))
start_once s (inl p) (inl q) = ap inl (ℕ_set s 1 p q)
start_once s (inl p) (inr q) = absurd (apart p q)
start_once s (inr p) (inl q) = absurd (apart q p)
start_once s (inr p) (inr q) = ap inr (ℕ_set s 3 p q)
