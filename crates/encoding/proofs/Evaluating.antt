-- What the evaluator asks of exponents, met by those that rise.
-- Assumes nothing.
use mathlib.Core.Path.{◌≡◌}
use mathlib.Core.Bool.{true}
use mathlib.Core.List.{List}
use Prim.Native.Nat.{ℕ}
use lib.Dec.{T, ltb, lt→ltb}
use lib.ListN.{get_or}
use Rattle.algebra.specs.All.{are_below}
use Rattle.algebra.proofs.All.{all_from}
use Rattle.algebra.proofs.Test.{true_holds}
use Rattle.parameters.specs.declared.Params.{Params}
use Rattle.encoding.specs.Encoding.{are_exponents}
use Rattle.encoding.proofs.Testing.{increasing_below}

pub exponents_below : (p : Params) (exponents : List ℕ) → are_exponents p exponents ≡ true → T (are_below p.n exponents)
exponents_below p exponents rise =
    all_from (λ (j : ℕ). ltb j p.n) exponents 0 (λ i h. lt→ltb (get_or exponents i 0) p.n (increasing_below p.n 1 exponents (true_holds rise) i h))
