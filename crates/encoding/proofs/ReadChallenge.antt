-- A challenge that is read from entries which are allowed, with strictly increasing indices below N, is sparse: it has as many coefficients that are not 0
-- as there are entries.
-- Assumes nothing.
use mathlib.Core.Path.{◌≡◌, refl, ap, ◌∙◌}
use mathlib.Core.List.{List, ◌∷◌}
use Prim.Native.Nat.{ℕ, suc, ◌+◌}
use native.Mathlib.Omega.{arith}
use lib.Dec.{T, ltb}
use lib.IntN.{ℤ, pos, negsuc}
use lib.ListN.{length}
use Rattle.algebra.proofs.Test.{cond_by}
use Rattle.parameters.specs.declared.Params.{Params}
use Rattle.polynomial.specs.Polynomial.{ternary}
use Rattle.polynomial.specs.Sparse.{Sparse, nonzeros}
use Rattle.encoding.specs.Challenge.{coefficient_of, are_entries, challenge_of}
use Rattle.encoding.specs.Encoding.{entries_in}
use Rattle.encoding.proofs.EntriesInverse.{by_coefficient}
use Rattle.encoding.proofs.Parts.{length-numbers}

-- the coefficients from index i on, of n in all, read from the entries es
record ReadFrom (n i : ℕ) (es : List ℕ) (c : List ℤ) : Type 0 where
  size : i + length c ≡ n
  small : T (ternary c)
  exact : nonzeros c ≡ length es

-- an entry gives 1 or -1
with_entry : (n i e : ℕ) (es : List ℕ) (c : List ℤ) → ReadFrom n (suc i) es c → ReadFrom n i (e ∷ es) (coefficient_of e ∷ c)
with_entry n i e es c h =
    let size : i + suc (length c) ≡ n = omega (arith, h.size) in
    cond_by (λ (a : ℤ). ReadFrom n i (e ∷ es) (a ∷ c)) (ltb e 32768) {a = pos 1} {b = negsuc 0}
    (λ _. record { size = size; small = h.small; exact = ap suc h.exact })
    (λ _. record { size = size; small = h.small; exact = ap suc h.exact })

pub read_sparse : (p : Params) (es : List ℕ) → length es ≡ p.b → T (are_entries p.n es) → Sparse p (challenge_of p.n es)
read_sparse p es count allowed =
    let n = p.n in
    let h =
    by_coefficient n (ReadFrom n) (record { size = omega arith; small = tt; exact = refl })
    (λ i e es c is. with_entry n i e es c)
    (λ i es c h. record { size = omega (arith, h.size); small = h.small; exact = h.exact }) n 0 es (omega arith) allowed in
    record { size = omega (arith, h.size); small = h.small; exact = h.exact ∙ count }

-- the challenge of a signature's body
pub body_sparse : (p : Params) (body : List ℕ) → T (are_entries p.n (entries_in p body)) → Sparse p (challenge_of p.n (entries_in p body))
body_sparse p body = read_sparse p (entries_in p body) (length-numbers 2 p.b body)
