-- The paper's rule on lists as the code has them, and what the differences ask of their caller.
-- Assumes nothing.
use Rattle.std.specs.Prelude.{◌≡◌, Bool, List, ℕ, ◌^◌, ◌<◌, ◌≤◌, T, ℤ, length}
use Rattle.algebra.specs.All.{are_below}
use Rattle.parameters.specs.declared.Params.{Params}
use Rattle.parameters.specs.Limits.{max_t}
use Rattle.challenge.specs.Draw.{draw_challenge}
use Rattle.scheme.specs.Scheme.{Signature, verdict}

-- the signature with challenge c and point z
abbrev pub signature_with : List ℤ → List ℤ → Signature
signature_with c z = record { c = c; z = z }

-- the paper's rule on it, with the way to draw of a rule of hashing
abbrev pub verdict_on : ℕ → Params → List ℕ → List ℕ → List ℕ → List ℤ → List ℤ → Bool
verdict_on rule p exponents message vs c z = verdict (draw_challenge rule) p exponents message vs (signature_with c z)

-- what the differences ask: lists of one length, of evaluations
pub record Recoverable (q : ℕ) (vs cs zs : List ℕ) : Type 0 where
  pub modulus : q < 2 ^ 20
  pub size : length zs ≤ max_t
  pub evaluations_size : length vs ≡ length zs
  pub challenge_size : length cs ≡ length zs
  pub evaluations_below : T (are_below q vs)
  pub challenge_below : T (are_below q cs)
  pub z_below : T (are_below q zs)
