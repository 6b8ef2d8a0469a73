-- What the stages give together, and the evaluations at all exponents that the code reads from.
-- Assumes nothing.
use Rattle.std.specs.Prelude.{◌≡◌, List, map, ℕ, ◌+◌, ◌-◌, ◌*◌, ◌<◌, ◌≤◌, T, ℤ, length, get_or, take, drop}
use Rattle.algebra.specs.All.{are_below}
use Rattle.parameters.specs.declared.Params.{Params}
use Rattle.parameters.specs.Limits.{max_n}
use Rattle.polynomial.specs.Evaluation.{evaluation_residue}
use Rattle.split_tables.specs.Split.{shape_of, width}
use Rattle.split.specs.Levels.{Tree, Cut, Joined, root_of}
use Rattle.split.specs.Products.{Products}

-- the numbers of a list in the order of a table
unfoldable pub in_order : List ℕ → List ℕ → List ℕ
in_order numbers order = map (λ (e : ℕ). get_or numbers e 0) order

-- tables that the three stages can use
pub record Staged (q start l : ℕ) (twists rows : List ℕ) : Type 0 where
  pub tree : Tree q start twists
  pub rows_below : T (are_below q rows)
  pub rows_size : length rows ≡ length twists * width l
  pub room : length twists * l ≤ max_n
  pub short : l ≤ 128
  pub some : 0 < l

-- out is u cut, multiplied by the rows, and joined
pub record Correlated (q l : ℕ) (twists rows u out : List ℕ) : Type 0 where
  pub xs : List ℕ
  pub ys : List ℕ
  pub cut : Cut q l (root_of q twists) u xs (length twists) 1
  pub products : Products q (length twists) l xs rows ys
  pub joined : Joined q l (root_of q twists) ys out 1 (length twists)

-- the same of the coefficients of a polynomial, reduced to 0..q-1, with a set's tables t
pub record SplitSums (p : Params) (t lifted out : List ℕ) : Type 0 where
  pub stages : Correlated p.q (shape_of p.n).l (take (shape_of p.n).k (drop (p.n - 1) t)) (drop (p.n - 1 + (shape_of p.n).k) t)
      (in_order lifted (take (p.n - 1) t)) out

-- the evaluation at exponent e, in 0..q-1, stands at place e - 1, for each e of 1 .. N - 1
pub record AtExponents (p : Params) (f : List ℤ) (values : List ℕ) : Type 0 where
  pub each : (e : ℕ) → 0 < e → e < p.n → get_or values (e - 1) 0 ≡ evaluation_residue p f e

-- exponents of 1 .. n - 1
pub record Exponents (n : ℕ) (js : List ℕ) : Type 0 where
  pub positive : (i : ℕ) → i < length js → 0 < get_or js i 0
  pub below : (i : ℕ) → i < length js → get_or js i 0 < n
