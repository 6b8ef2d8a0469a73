-- What the evaluator's parts and those of the product ask of their callers, and what their loops keep.
-- Assumes nothing.
use Rattle.std.specs.Prelude.{◌≡◌, List, ℕ, ◌+◌, ◌*◌, ◌%◌, ◌^◌, ◌<◌, ◌≤◌, T, ℤ, pos, ◌+ℤ◌, ◌*ℤ◌, nat_abs, length, get_or}
use Rattle.algebra.specs.Integer.{within, sum}
use Rattle.polynomial.specs.Polynomial.{coefficient, ternary}

-- ---- the evaluator, which reads an array t of powers and coefficients f
-- coefficient i times the power at k
unfoldable pub product_at : List ℕ → List ℤ → ℕ → ℕ → ℤ
product_at t f k i = coefficient f i *ℤ pos (get_or t k 0)

-- four of them from i on, the first at place k, the others j, j2 and j3 places on
abbrev pub four_products : List ℕ → List ℤ → ℕ → ℕ → ℕ → ℕ → ℕ → ℕ → ℤ
four_products t f n k i j j2 j3 =
    product_at t f k i +ℤ product_at t f ((k + j) % n) (i + 1) +ℤ product_at t f ((k + j2) % n) (i + 2) +ℤ product_at t f ((k + j3) % n) (i + 3)

-- coefficient i times the power at i × j
abbrev pub read_term : ℕ → List ℕ → List ℤ → ℕ → ℕ → ℤ
read_term n t f j i = product_at t f (i * j % n) i

-- acc is the sum of the first i products, each of 47 bits at most, and k the place of the next power
pub record Summed (n : ℕ) (t : List ℕ) (f : List ℤ) (j : ℕ) (acc : ℤ) (k i : ℕ) : Type 0 where
  pub below : i ≤ n
  pub inside : k < n
  pub place : k ≡ i * j % n
  pub room : nat_abs acc ≤ i * 2 ^ 47
  pub value : acc ≡ sum (read_term n t f j) i

-- ---- the product
-- a times f may be added to the sums: they fit 16 bits still
pub record Addable (sums f : List ℤ) (a : ℤ) : Type 0 where
  pub size : length f ≡ length sums
  pub room : T (within (2 ^ 14) sums)
  pub small : T (ternary f)
  pub factor : nat_abs a ≤ 1
