-- The sizes of a tree's numbers, and sums over two and three parts.
-- Assumes nothing.
use mathlib.Core.Path.{◌≡◌, sym, ap, ◌∙◌}
use mathlib.Core.List.{List}
use Prim.Native.Nat.{ℕ, zero, suc, ◌+◌, ◌*◌, ◌/◌, ◌<◌, ◌≤◌}
use native.Mathlib.Nat.{mul_assoc, mul-zero, mul-le-mul_left, one-le-pow, div-lt_iff_lt-mul}
use native.Mathlib.Omega.{arith}
use lib.IntN.{ℤ, ◌+ℤ◌, +ℤ_idl}
use lib.ListN.{length, get_or}
use Rattle.algebra.specs.Integer.{sum}
use Rattle.algebra.proofs.All.{below_at}
use Rattle.split_tables.specs.Split.{PowerOfTwo}
use Rattle.split.specs.Levels.{UnderIn, Tree}
use Rattle.split.proofs.LevelLaws.{under_at}

pub sum_two : (f : ℕ → ℤ) → sum f 2 ≡ f 0 +ℤ f 1
sum_two f = ap (λ (z : ℤ). z +ℤ f 1) (+ℤ_idl (f 0))

pub sum_three : (f : ℕ → ℤ) → sum f 3 ≡ f 0 +ℤ f 1 +ℤ f 2
sum_three f = ap (λ (z : ℤ). z +ℤ f 2) (sum_two f)

pub positive : {q start : ℕ} {twists : List ℕ} → Tree q start twists → 0 < q
positive tree = omega (arith, tree.modulus.from)

pub half_some : {half : ℕ} → PowerOfTwo half → 0 < half
half_some two = omega (arith, two.is, one-le-pow two.exponent 2 (omega arith))

-- a node's twist is below q
pub twist_below : {q start : ℕ} {twists : List ℕ} → Tree q start twists → (nodes half : ℕ) → nodes * (2 * half) ≡ length twists → PowerOfTwo half
    → (b : ℕ) → b < nodes → get_or twists (nodes + b) 0 < q
twist_below {q} {start} {twists} tree nodes half all two b hb =
    let pair : nodes * 2 ≤ nodes * (2 * half) = mul-le-mul_left nodes (omega (arith, half_some two)) in
    below_at q twists tree.twisted.below (nodes + b) (omega (arith, pair, all))

-- so many nodes of two halves have all numbers
pub nodes_size : (nodes half l k : ℕ) → nodes * (2 * half) ≡ k → nodes * (2 * (half * l)) ≡ k * l
nodes_size nodes half l k all = ap (λ (x : ℕ). nodes * x) (sym (mul_assoc 2 half l)) ∙ sym (mul_assoc nodes (2 * half) l) ∙ ap (λ (x : ℕ). x * l) all

pub old_below : {k n : ℕ} {old : List ℕ} (nodes half l : ℕ) → nodes * (2 * half) ≡ n → UnderIn k old 0 (n * l) → (i : ℕ) → i < nodes * (2 * (half * l))
    → get_or old i 0 < k
old_below {n = n} nodes half l all under i hi = under_at under i (omega (arith, nodes_size nodes half l n all))

-- the quotient of a number below n times m
pub div_below : (e n m : ℕ) → 0 < m → e < n * m → e / m < n
div_below e n m some h = (div-lt_iff_lt-mul {k = m} {x = e} {y = n} some).1 h

-- a product that is above something has no factor 0
pub positive_factor : (k n m : ℕ) → k < n * m → 0 < m
positive_factor k n zero h = omega (arith, h, mul-zero n)
positive_factor k n (suc m) h = omega arith
