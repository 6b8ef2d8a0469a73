-- Cyclic convolution.
-- Assumes nothing.
use Rattle.std.specs.Prelude.{List, map, ℕ, ◌+◌, ◌-◌, ◌%◌, ℤ, pos, ◌*ℤ◌, length, get_or}
use Rattle.algebra.specs.Integer.{residue, sum}
use Rattle.transform.specs.UpFrom.{up_from}

-- the cyclic convolution, of length n, of two sequences at m: the sum of u at i times w at m - i, places counted modulo n
abbrev pub cyclic : ℕ → (ℕ → ℤ) → (ℕ → ℤ) → ℕ → ℤ
cyclic n u w m = sum (λ (i : ℕ). u i *ℤ w ((m + (n - i)) % n)) n

-- a list as a sequence
abbrev pub entry : List ℕ → ℕ → ℤ
entry l i = pos (get_or l i 0)

-- the cyclic convolution modulo q of two lists of one length, at each place
unfoldable pub convolution : ℕ → List ℕ → List ℕ → List ℕ
convolution q u w = map (λ (m : ℕ). residue (cyclic (length u) (entry u) (entry w) m) q) (up_from 0 (length u))
