-- The check says yes exactly when z is in range and the challenge is the one drawn from the recovered commitment (PASSign paper, section 3.3);
-- otherwise it says no.
-- Assumes nothing.
use mathlib.Core.Path.{◌≡◌, sym, ◌∙◌}
use mathlib.Core.Bool.{true, false, ◌&&◌, true≢false}
use mathlib.Core.List.{List}
use mathlib.Core.Logic.{◌↔◌}
use Prim.Native.Nat.{ℕ, ◌-◌}
use Rattle.algebra.proofs.Test.{and_left, and_right, and_intro, holds_true, true_holds, by_test}
use Rattle.algebra.specs.Integer.{within}
use Rattle.parameters.specs.declared.Params.{Params}
use Rattle.scheme.specs.Scheme.{Drawer, Signature, recovered, is_drawn, verdict}
use Rattle.scheme.specs.Verdict.{Valid}
use Rattle.scheme.proofs.Within.{within_iff}
use Rattle.scheme.proofs.Equal.{is_drawn_iff}

module _ (draw : Drawer) (p : Params) (exponents message vs : List ℕ) (s : Signature) where
  pub verdict-true : (verdict draw p exponents message vs s ≡ true) ↔ Valid draw p exponents message vs s
  unfolding verdict
  verdict-true =
      let t = within (p.k - p.b) s.z in
      let u = is_drawn (draw p (recovered p s exponents vs) message) s.c in
      let in-range = within_iff (p.k - p.b) s.z in
      let is-drawn = is_drawn_iff (draw p (recovered p s exponents vs) message) s.c in (
        λ e. record { range = in-range.0 (and_left t u (true_holds e)); challenge = is-drawn.0 (and_right t u (true_holds e)) },
        λ v. holds_true (t && u) (and_intro t u (in-range.1 v.range) (is-drawn.1 v.challenge)),
      )

  pub verdict-false : (verdict draw p exponents message vs s ≡ false) ↔ ¬ Valid draw p exponents message vs s
  verdict-false = (
    λ e v. true≢false (sym (verdict-true.1 v) ∙ e),
    λ n. by_test (verdict draw p exponents message vs s) (λ e. absurd (n (verdict-true.0 e))) (λ e. e),
  )
