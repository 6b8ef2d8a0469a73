-- What theorems and code ask of a parameter set, and the test of it that is computed for each of the five.
-- Assumes nothing.
use Rattle.std.specs.Prelude.{◌≡◌, Bool, List, [], ◌∷◌, ◌^◌, ◌%◌, ◌<◌, ◌≤◌, ltb, leb, eqb}
use Rattle.algebra.specs.All.{all}
use Rattle.parameters.specs.declared.Params.{Params}
use Rattle.parameters.specs.Limits.{max_n, max_t, max_b}

-- all of these tests hold
abbrev pub hold : List Bool → Bool
hold ts = all (λ (t : Bool). t) ts

-- what the theorems ask: evaluation respects the cyclic product where g to the N is 1 modulo q, and k has room for a product
pub record Sound (p : Params) : Type 0 where
  pub modulus : 1 < p.q
  pub cyclic : p.g ^ p.n % p.q ≡ 1
  pub room : p.b ≤ p.k

abbrev pub sound_tests : Params → List Bool
sound_tests p = ltb 1 p.q ∷ eqb (p.g ^ p.n % p.q) 1 ∷ leb p.b p.k ∷ []

-- what the code's arrays and words have room for
pub record Fitting (p : Params) : Type 0 where
  pub size : p.n ≤ max_n
  pub modulus : p.q < 2 ^ 20
  pub mask : p.k < 2 ^ 15
  pub weight : p.b ≤ max_b
  pub exponents : p.t < p.n

abbrev pub fitting_tests : Params → List Bool
fitting_tests p = leb p.n max_n ∷ ltb p.q (2 ^ 20) ∷ ltb p.k (2 ^ 15) ∷ leb p.b max_b ∷ ltb p.t p.n ∷ []

-- sizes within the limits: what holds of a byte that is no set too, whose numbers are all 0, so that sizes may be worked out before a set is tested
pub record Limited (p : Params) : Type 0 where
  pub size : p.n ≤ max_n
  pub weight : p.b ≤ max_b
  pub count : p.t ≤ max_t

abbrev pub limited_tests : Params → List Bool
limited_tests p = leb p.n max_n ∷ leb p.b max_b ∷ leb p.t max_t ∷ []
