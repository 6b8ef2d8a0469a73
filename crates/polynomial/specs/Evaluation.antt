-- Document 01, "Polynomials and evaluations": evaluation at powers of g, in signed form and reduced to 0..q-1.
-- Assumes nothing.
use Rattle.std.specs.Prelude.{List, map, ℕ, ◌*◌, ◌^◌, ℤ, pos, ◌*ℤ◌, length}
use Rattle.algebra.specs.Integer.{residue, centred, sum}
use Rattle.parameters.specs.declared.Params.{Params}
use Rattle.polynomial.specs.Polynomial.{coefficient}

-- coefficient i times g to the (i × j)
abbrev pub term : Params → List ℤ → ℕ → ℕ → ℤ
term p f j i = coefficient f i *ℤ pos (p.g ^ (i * j))

-- the sum of the terms, which may be negative
abbrev pub sum_at : Params → List ℤ → ℕ → ℤ
sum_at p f j = sum (term p f j) (length f)

-- the evaluation at exponent j: the sum reduced to the integer of absolute value at most q/2
unfoldable pub evaluation : Params → List ℤ → ℕ → ℤ
evaluation p f j = centred (sum_at p f j) p.q

-- the sum reduced to 0..q-1: the form of an evaluation in the encodings, in the hash and wherever one is taken
unfoldable pub evaluation_residue : Params → List ℤ → ℕ → ℕ
evaluation_residue p f j = residue (sum_at p f j) p.q

-- the evaluations at the points, in their order: of a key the public evaluations, of a mask the commitment
unfoldable pub evaluations : Params → List ℤ → List ℕ → List ℤ
evaluations p f js = map (evaluation p f) js

-- the same in 0..q-1
unfoldable pub evaluation_residues : Params → List ℤ → List ℕ → List ℕ
evaluation_residues p f js = map (evaluation_residue p f) js
