-- Chains of tests: what is not refused has passed each test, and what has passed each is not refused.
-- Assumes nothing.
use mathlib.Core.Path.{◌≡◌, refl, sym, subst}
use mathlib.Core.Bool.{Bool, true, false, not, true≢false, cond}
use mathlib.Core.Logic.Iff
use mathlib.Core.Logic.{◌↔◌}
use Prim.Native.Nat.{ℕ, suc}
use native.Mathlib.Omega.{arith}
use lib.Dec.{eqb}
use borrow.Author.Tests.{eqb-true, eq-eqb, not-false}

-- ---- one test of a chain that ends in y, where the test's own outcome is not y

module _ {A : Type 0} {y : A} where
  pub passed : (t : Bool) {a x : A} {P : Type 0} → (a ≡ y → ⊥) → (x ≡ y) ↔ P → (cond t a x ≡ y) ↔ ((t ≡ false) × P)
  passed true n r = (λ e. absurd (n e), λ h. absurd (true≢false h.0))
  passed false n r = (λ e. (refl, r.0 e), λ h. r.1 h.1)

  pub passed_not : (t : Bool) {a x : A} {P : Type 0} → (a ≡ y → ⊥) → (x ≡ y) ↔ P → (cond (not t) a x ≡ y) ↔ ((t ≡ true) × P)
  passed_not t n r = Iff.trans (passed (not t) n r) (Iff.and (not-false t, λ e. subst (λ (u : Bool). not u ≡ false) (sym e) refl) (λ h. h, λ h. h))

  -- and a test whose outcome is wanted
  pub chosen : (t : Bool) {a x : A} {P : Type 0} → (x ≡ y → ⊥) → (a ≡ y) ↔ P → (cond t a x ≡ y) ↔ ((t ≡ true) × P)
  chosen true n r = (λ e. (refl, r.0 e), λ h. r.1 h.1)
  chosen false n r = (λ e. absurd (n e), λ h. absurd (true≢false (sym h.0)))

-- a test in a chain of refusal numbers
pub step : (t : Bool) (n : ℕ) {x : ℕ} {P : Type 0} → (x ≡ 0) ↔ P → (cond (not t) (suc n) x ≡ 0) ↔ ((t ≡ true) × P)
step t n = passed_not t (λ e. omega arith)

-- the end of a chain
pub end : {A : Type 0} {y : A} → (y ≡ y) ↔ Unit {0}
end = (λ e. tt, λ u. refl)

-- the test of equal numbers
pub equal_iff : {a b : ℕ} → (eqb a b ≡ true) ↔ (a ≡ b)
equal_iff {a} {b} = (eqb-true a b, eq-eqb a b)
