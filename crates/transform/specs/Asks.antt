-- What the functions of this crate ask of their callers, and what their loops keep.
-- Assumes nothing.
use Rattle.std.specs.Prelude.{◌≡◌, ◌≢◌, List, map, ℕ, ◌+◌, ◌-◌, ◌*◌, ◌^◌, ◌%◌, ◌<◌, ◌≤◌, T, ℤ, pos, length, get_or}
use Rattle.algebra.specs.All.{are_below}
use Rattle.algebra.specs.Integer.{residue, sum}
use Rattle.parameters.specs.Limits.{max_n}
use Rattle.polynomial.specs.Polynomial.{coefficient}
use Rattle.transform.specs.UpFrom.{up_from}
use Rattle.transform.specs.Generator.{GeneratorTable}

-- t is a table of some generator's powers modulo n
pub record TableOf (n : ℕ) (t : List ℕ) : Type 0 where
  pub base : ℕ
  pub table : GeneratorTable base n t

-- u and w are residues modulo q, of one length
pub record Convolvable (q : ℕ) (u w : List ℕ) : Type 0 where
  pub size : length w ≡ length u
  pub room : length u ≤ max_n
  pub positive : 0 < q
  pub modulus : q < 2 ^ 20
  pub first : T (are_below q u)
  pub second : T (are_below q w)

-- the coefficients of f, reduced to 0..q-1, in the order of a table read backwards from its first entry
unfoldable pub residues_backwards : ℕ → List ℤ → List ℕ → List ℕ
residues_backwards q f t = map (λ (i : ℕ). residue (coefficient f (get_or t ((length t - i) % length t) 0)) q) (up_from 0 (length t))

-- the powers of g in the order of a table
unfoldable pub powers_in_order : List ℕ → List ℕ → List ℕ
powers_in_order powers t = map (λ (e : ℕ). get_or powers e 0) t

-- the products of the first n numbers of u with those of v from place k on, summed
unfoldable pub dot_at : List ℕ → List ℕ → ℕ → ℕ → ℤ
dot_at u v k n = sum (λ (i : ℕ). pos (get_or u i 0 * get_or v (k + i) 0)) n

-- v has the last i of the n numbers of w, backwards, in front and again behind n places
pub record Twice (n : ℕ) (w v : List ℕ) (i : ℕ) : Type 0 where
  pub room : length v ≡ 2 * max_n
  pub below : i ≤ n
  pub front : (k : ℕ) → k < i → get_or v k 0 ≡ get_or w (n - 1 - k) 0
  pub behind : (k : ℕ) → k < i → get_or v (n + k) 0 ≡ get_or w (n - 1 - k) 0

-- what code that writes by a table asks: its numbers are in 1 .. n, and no two are equal
pub record Places (n : ℕ) (t : List ℕ) : Type 0 where
  pub positive : (i : ℕ) → i < length t → 0 < get_or t i 0
  pub within : (i : ℕ) → i < length t → get_or t i 0 ≤ n
  pub apart : (i k : ℕ) → i < k → k < length t → get_or t i 0 ≢ get_or t k 0

-- value m stands at the place that the table gives, counted from 1, for each m below k; whatever is read behind the end
pub record Placed {A : Type 0} (t : List ℕ) (value : ℕ → A) (l : List A) (k : ℕ) : Type 0 where
  pub each : (m : ℕ) (d : A) → m < k → get_or l (get_or t m 0 - 1) d ≡ value m
