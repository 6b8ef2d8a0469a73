-- Request #102: generators of the nonzero residues modulo N, the tables of their powers, and the tests of both.
-- Assumes nothing.
use Rattle.std.specs.Prelude.{◌≡◌, Bool, ◌&&◌, not, List, [], ◌∷◌, ℕ, ◌+◌, ◌-◌, ◌*◌, ◌^◌, ◌%◌, ◌<◌, eqb, ltb, length, get_or, drop}
use Rattle.algebra.specs.All.{all}
use Rattle.algebra.specs.Powers.{is_power_table}
use Rattle.transform.specs.UpFrom.{up_from}

-- one of the first m numbers of a sequence s is j
pub record Taken (s : ℕ → ℕ) (m j : ℕ) : Type 0 where
  pub place : ℕ
  pub below : place < m
  pub is : s place ≡ j

-- r generates the nonzero residues modulo n: each of 1 .. n - 1 is one of the powers 0 .. n - 2 of r, and power n - 1 is 1 again
pub record Generator (r n : ℕ) : Type 0 where
  pub each : (j : ℕ) → 0 < j → j < n → Taken (λ (i : ℕ). r ^ i % n) (n - 1) j
  pub round : r ^ (n - 1) % n ≡ 1

-- and no smaller number does
pub record LeastGenerator (r n : ℕ) : Type 0 where
  pub generator : Generator r n
  pub least : (s : ℕ) → s < r → Generator s n → ⊥

-- the least generators of the five sets
unfoldable pub generators : List ℕ
generators = 2 ∷ 5 ∷ 5 ∷ 11 ∷ 5 ∷ []

unfoldable pub generator_of : ℕ → ℕ
generator_of s = get_or generators s 0

-- a table of a generator's powers: entry 0 is 1, each next is the one before times r modulo n, the last times r gives 1, and every number of 1 .. n - 1 occurs
pub record GeneratorTable (r n : ℕ) (t : List ℕ) : Type 0 where
  pub size : length t ≡ n - 1
  pub first : get_or t 0 0 ≡ 1
  pub next : (i : ℕ) → i + 1 < length t → get_or t (i + 1) 0 ≡ get_or t i 0 * r % n
  pub last : get_or t (n - 2) 0 * r % n ≡ 1
  pub each : (j : ℕ) → 0 < j → j < n → Taken (λ (i : ℕ). get_or t i 0) (length t) j

-- ---- the tests
-- of a table: its size, the rule of powers, and that no power but the first is 1, from which every number occurs (proofs/GeneratorLaws.antt)
abbrev pub is_generator_table : ℕ → ℕ → List ℕ → Bool
is_generator_table r n t = ltb 1 n && (eqb (length t) (n - 1) && (is_power_table r n t && all (λ (x : ℕ). not (eqb x 1)) (drop 1 t)))

-- of a number: power n - 1 is 1, and none before it is but power 0
abbrev pub is_generator : ℕ → ℕ → Bool
is_generator r n = eqb (r ^ (n - 1) % n) 1 && all (λ (d : ℕ). not (eqb (r ^ d % n) 1)) (up_from 1 (n - 2))

abbrev pub is_least_generator : ℕ → ℕ → Bool
is_least_generator r n = is_generator r n && all (λ (s : ℕ). not (is_generator s n)) (up_from 0 r)
