-- The tests of a split's tables, computed over the tables' own numbers.
-- Assumes nothing.
use Rattle.std.specs.Prelude.{Bool, true, ◌&&◌, cond, List, [], ◌∷◌, map, ℕ, ◌+◌, ◌-◌, ◌*◌, ◌/◌, ◌^◌, ◌%◌, eqb, ltb, leb, length, get_or, take, drop, replicate}
use Rattle.algebra.specs.All.{all, are_below}
use Rattle.parameters.specs.declared.Params.{Params}
use Rattle.parameters.specs.Sound.{hold}
use Rattle.transform.specs.Generator.{is_generator_table}
use Rattle.transform.specs.UpFrom.{up_from}
use Rattle.split_tables.specs.Split.{shape_of, split_from, twist_at, root_at, third_at, width}

-- ---- the twists
-- root s to the power `half` is what its half of a node says
abbrev pub is_twisted : ℕ → ℕ → List ℕ → ℕ → ℕ → Bool
is_twisted q k twists half s = eqb (root_at q twists k s ^ half % q) (twist_at q twists (k / (2 * half)) half s % q)

-- and so for each root, where nodes of twice as many roots cover all K
abbrev pub is_level : ℕ → ℕ → List ℕ → ℕ → Bool
is_level q k twists half = cond (eqb (k / (2 * half) * (2 * half)) k) (all (is_twisted q k twists half) (up_from 0 k)) true

-- root s to the power K / 3 is what its third says
abbrev pub is_third : ℕ → ℕ → List ℕ → ℕ → Bool
is_third q k twists s = eqb (root_at q twists k s ^ (k / 3) % q) (third_at twists k s % q)

-- the two cube roots of 1 beside 1 are each other's squares
abbrev pub are_squares : ℕ → List ℕ → Bool
are_squares q twists = eqb (get_or twists 1 0 * get_or twists 1 0 % q) (get_or twists 2 0) && eqb (get_or twists 2 0 * get_or twists 2 0 % q) (get_or twists 1 0)

-- root s to the power K is 1
abbrev pub is_unity : ℕ → ℕ → List ℕ → ℕ → Bool
is_unity q k twists s = eqb (root_at q twists k s ^ k % q) 1

-- K is below 32, so that four levels are all that there can be
unfoldable pub twist_tests : ℕ → ℕ → ℕ → List ℕ → List Bool
twist_tests q k start twists =
    ltb k 32
    ∷ eqb (length twists) k
    ∷ are_below q twists
    ∷ all (λ (j : ℕ). is_level q k twists (2 ^ j)) (up_from 0 4)
    ∷ cond (eqb start 3) (all (is_third q k twists) (up_from 0 k)) true
    ∷ cond (eqb start 3) (are_squares q twists) true
    ∷ all (is_unity q k twists) (up_from 0 k)
    ∷ []

-- ---- the rows
-- y plus c times t, number by number, as many as y has
unfoldable pub plus_times : ℕ → List ℕ → List ℕ → List ℕ
plus_times c ts [] = []
plus_times c [] (y ∷ ys) = y ∷ ys
plus_times c (t ∷ ts) (y ∷ ys) = (c * t + y) ∷ plus_times c ts ys

-- rows of w numbers one after the other, each times its weight, summed
unfoldable pub combined : ℕ → List ℕ → List ℕ → List ℕ
combined w [] t = replicate w 0
combined w (c ∷ cs) t = plus_times c t (combined w cs (drop w t))

-- the roots to the power e
abbrev pub weights : ℕ → (ℕ → ℕ) → ℕ → ℕ → List ℕ
weights q root k e = map (λ (s : ℕ). root s ^ e % q) (up_from 0 k)

-- modulo q, the first number is x and each next is the one before to the power r
unfoldable pub is_orbit : ℕ → ℕ → ℕ → List ℕ → Bool
is_orbit r q x [] = true
is_orbit r q x (y ∷ ys) = eqb (y % q) x && is_orbit r q (x ^ r % q) ys

-- the rows, summed with powers e of the roots, are the powers of g in the generator's order, from place e L on
abbrev pub is_combined : Params → ℕ → ℕ → ℕ → (ℕ → ℕ) → List ℕ → ℕ → Bool
is_combined p base k l root rows e = is_orbit base p.q (p.g ^ (base ^ (e * l) % p.n) % p.q) (combined (width l) (weights p.q root k e) rows)

unfoldable pub row_tests : Params → ℕ → ℕ → ℕ → (ℕ → ℕ) → List ℕ → List Bool
row_tests p base k l root rows =
    eqb (length rows) (k * width l) ∷ are_below p.q rows ∷ all (is_combined p base k l root rows) (up_from 0 k) ∷ []

-- ---- a set's twists and rows, one after the other, where `base` is the generator
unfoldable pub split_tests : Params → ℕ → List ℕ → List Bool
split_tests p base t =
    let k = (shape_of p.n).k in
    let l = (shape_of p.n).l in
    leb split_from p.q
    ∷ eqb (k * l) (p.n - 1)
    ∷ eqb (length t) (2 * (p.n - 1))
    ∷ hold (twist_tests p.q k (shape_of p.n).start (take k t))
    ∷ hold (row_tests p base k l (root_at p.q (take k t) k) (drop k t))
    ∷ []

-- the one test of them all
abbrev pub is_split : Params → ℕ → List ℕ → Bool
is_split p base t = hold (split_tests p base t)

-- ---- a set's whole table: the powers of a generator, then twists and rows, or as many numbers where a set has no split
-- the generator that the tests name: number 1 of the powers, which modulo N is each generator that has them; 1 where they are one number, as for N = 2
abbrev pub base_of : Params → List ℕ → ℕ
base_of p t = get_or (take (p.n - 1) t) 1 1

unfoldable pub has_split : Params → List ℕ → Bool
has_split p t =
    is_generator_table (base_of p t) p.n (take (p.n - 1) t)
    && cond (ltb p.q split_from) (eqb (length (drop (p.n - 1) t)) (2 * (p.n - 1))) (is_split p (base_of p t) (drop (p.n - 1) t))
