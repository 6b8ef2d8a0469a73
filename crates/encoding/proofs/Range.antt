-- Points and evaluations that are allowed fit the bytes of a public key.
-- Assumes nothing.
use mathlib.Core.Path.{◌≡◌}
use mathlib.Core.Bool.{true}
use mathlib.Core.List.{List}
use Prim.Native.Nat.{ℕ}
use native.Mathlib.Omega.{arith}
use lib.Dec.{ltb, lt→ltb, ltb→lt}
use lib.ListN.{length, get_or}
use Rattle.algebra.proofs.All.{all_from, all_weaker}
use Rattle.algebra.proofs.Test.{true_holds}
use Rattle.parameters.specs.declared.Params.{Params}
use Rattle.parameters.specs.Sound.{Fitting}
use Rattle.encoding.specs.Encoding.{PublicKeyRange, are_exponents, are_evaluations}
use Rattle.encoding.proofs.Testing.{increasing_below}

pub public_key_range : {p : Params} → Fitting p → (exponents evaluations : List ℕ) → length exponents ≡ p.t → are_exponents p exponents ≡ true
    → length evaluations ≡ p.t → are_evaluations p evaluations ≡ true → PublicKeyRange p exponents evaluations
public_key_range {p} fitting exponents evaluations size rise size' below = record {
  exponents_length = size;
  exponents_below =
      all_from (λ (j : ℕ). ltb j 65536) exponents 0
      (λ i h. lt→ltb (get_or exponents i 0) 65536 (omega (arith, increasing_below p.n 1 exponents (true_holds rise) i h, fitting.size)));
  evaluations_length = size';
  evaluations_below =
      all_weaker (λ (v : ℕ). ltb v p.q) (λ (v : ℕ). ltb v 16777216) (λ v t. lt→ltb v 16777216 (omega (arith, ltb→lt v p.q t, fitting.modulus)))
      evaluations (true_holds below);
}
