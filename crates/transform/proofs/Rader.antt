-- Rader's reordering. For a prime N and a generator r of the nonzero residues modulo N, and for every polynomial f of N coefficients: the sum at exponent
-- r to the m is, modulo q, coefficient 0 plus the cyclic convolution, of length N - 1, of the reordered coefficients and the reordered powers of g, at m; and
-- the evaluation there is the centred remainder of that.
-- Assumes nothing.
use mathlib.Core.Path.{◌≡◌, refl}
use mathlib.Core.List.{List}
use Prim.Native.Nat.{ℕ, ◌^◌, ◌%◌}
use native.Mathlib.Nat.{mod-mod}
use native.Mathlib.Omega.{arith}
use lib.IntN.{ℤ}
use lib.ListN.{length}
use Rattle.algebra.specs.Integer.{centred}
use Rattle.algebra.proofs.Centred.{centred-eq}
use Rattle.algebra.proofs.Congruence.{Cong, residue-eq}
use Rattle.parameters.specs.declared.Params.{Params}
use Rattle.parameters.specs.Sound.{Sound}
use Rattle.polynomial.specs.Evaluation.{sum_at, evaluation}
use Rattle.transform.specs.Prime.{Prime}
use Rattle.transform.specs.Generator.{Generator}
use Rattle.transform.specs.Reordering.{reordered_sum, Reordered}
use Rattle.transform.proofs.ReorderedSum.{reordered_at}

pub rader : {p : Params} {r : ℕ} → Sound p → Prime p.n → Generator r p.n → (f : List ℤ) → length f ≡ p.n → (m : ℕ) → Reordered r p f m
unfolding evaluation
rader {p} {r} sound prime gen f size m =
    let at = reordered_at sound prime.above gen f size m in
    record {
      sum_is = residue-eq (omega (arith, sound.modulus)) (at (r ^ m) refl);
      evaluation_is = exact (r ^ m) (at (r ^ m) refl);
      in_range = exact (r ^ m % p.n) (at (r ^ m % p.n) (mod-mod (r ^ m) p.n));
    }
  where
    exact : (j : ℕ) → Cong p.q (sum_at p f j) (reordered_sum r p f m) → evaluation p f j ≡ centred (reordered_sum r p f m) p.q
    exact j c = centred-eq (omega (arith, sound.modulus)) c
