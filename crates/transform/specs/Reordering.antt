-- Request #102: Rader's reordering, for a prime N and a generator r of the nonzero residues modulo N.
-- Assumes nothing.
use Rattle.std.specs.Prelude.{◌≡◌, List, ℕ, ◌-◌, ◌^◌, ◌%◌, ℤ, pos, ◌+ℤ◌}
use Rattle.algebra.specs.Integer.{residue, centred}
use Rattle.parameters.specs.declared.Params.{Params}
use Rattle.polynomial.specs.Polynomial.{coefficient}
use Rattle.polynomial.specs.Evaluation.{sum_at, evaluation}
use Rattle.transform.specs.Convolution.{cyclic}

-- the reordered coefficients: place i has coefficient r to the -i, which modulo N is r to the (N - 1) - i
abbrev pub reordered_coefficients : ℕ → Params → List ℤ → ℕ → ℤ
reordered_coefficients r p f i = coefficient f (r ^ (p.n - 1 - i) % p.n)

-- the reordered powers of g: place i has g to the (r to the i)
abbrev pub reordered_powers : ℕ → Params → ℕ → ℤ
reordered_powers r p i = pos (p.g ^ (r ^ i % p.n))

-- coefficient 0 plus the cyclic convolution of the two, of length N - 1, at m
abbrev pub reordered_sum : ℕ → Params → List ℤ → ℕ → ℤ
reordered_sum r p f m = coefficient f 0 +ℤ cyclic (p.n - 1) (reordered_coefficients r p f) (reordered_powers r p) m

-- what the reordering gives at exponent r to the m: the sum is, modulo q, the reordered one, and the evaluation is the centred remainder of that; so too with
-- the exponent reduced to 1 .. N - 1
pub record Reordered (r : ℕ) (p : Params) (f : List ℤ) (m : ℕ) : Type 0 where
  pub sum_is : residue (sum_at p f (r ^ m)) p.q ≡ residue (reordered_sum r p f m) p.q
  pub evaluation_is : evaluation p f (r ^ m) ≡ centred (reordered_sum r p f m) p.q
  pub in_range : evaluation p f (r ^ m % p.n) ≡ centred (reordered_sum r p f m) p.q
