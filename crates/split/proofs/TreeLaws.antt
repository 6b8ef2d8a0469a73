-- One level of the tree, into any number r of parts: what the cut of all blocks gives, and what their joining gives. Sequences in the place of lists.
-- Assumes nothing.
use mathlib.Core.Path.{◌≡◌, sym, ap, ◌∙◌}
use Prim.Native.Nat.{ℕ, zero, suc, ◌+◌, ◌*◌, ◌^◌, ◌<◌}
use native.Mathlib.Nat.{add-mul, mul-add, mul_assoc, mul_comm, mul-zero, pow-zero, pow-suc}
use native.Mathlib.Omega.{arith}
use lib.Pow.{pow-add}
use lib.IntN.{ℤ, pos, ◌*ℤ◌}
use Rattle.algebra.specs.Integer.{sum}
use Rattle.algebra.proofs.Congruence.{Cong, cong_refl, cong-eq, cong_trans, cong-mul}
use Rattle.algebra.proofs.Remainder.{pow-pow}
use Rattle.algebra.proofs.Ring.{ring, *ℤ_idl}
use Rattle.algebra.proofs.Sum.{sum-cong, sum_same, sum_times, sum_swap, sum_rows}

times_assoc : (a b c : ℤ) → a *ℤ (b *ℤ c) ≡ a *ℤ b *ℤ c
times_assoc a b c = simp ring

-- two powers of one number, in one
one_power : (x m n k : ℕ) → m + n ≡ k → (v : ℤ) → pos (x ^ m) *ℤ (pos (x ^ n) *ℤ v) ≡ pos (x ^ k) *ℤ v
one_power x m n k e v =
    times_assoc (pos (x ^ m)) (pos (x ^ n)) v
    ∙ ap (λ (y : ℕ). pos y *ℤ v) (sym (pow-add x m n) ∙ ap (λ (y : ℕ). x ^ y) e)

pub power_cong : {q a b : ℕ} → Cong q (pos a) (pos b) → (n : ℕ) → Cong q (pos (a ^ n)) (pos (b ^ n))
power_cong {q} {a} {b} h zero = cong-eq (ap pos (pow-zero a ∙ sym (pow-zero b)))
power_cong {q} {a} {b} h (suc n) =
    cong_trans (cong-eq (ap pos (pow-suc a n))) (cong_trans (cong-mul (power_cong h n) h) (cong-eq (ap pos (sym (pow-suc b n)))))

-- the term of power 0
pub power_none : (x m : ℕ) (v : ℤ) → pos (x ^ (m * 0)) *ℤ v ≡ v
power_none x m v = ap (λ (y : ℕ). pos y *ℤ v) (ap (λ (y : ℕ). x ^ y) (mul-zero m) ∙ pow-zero x) ∙ *ℤ_idl v

-- the place of number i of part j of block b, counted over all blocks of r parts of h
pub part_place : (b r j h i : ℕ) → (b * r + j) * h + i ≡ b * (r * h) + (j * h + i)
part_place b r j h i = omega (arith, add-mul (b * r) j h, mul_assoc b r h)

module _ (q : ℕ) (root : ℕ → ℕ) (r nodes leaves l : ℕ) where
  -- what stands for u in block b of so many nodes of so many leaves, by the root s of it
  abbrev remainder : (ℕ → ℤ) → ℕ → ℕ → ℕ → ℕ → ℤ
  remainder u n m s i = sum (λ (j : ℕ). pos (root s ^ (m * j)) *ℤ u (j * (m * l) + i)) n

  module _ (u x : ℕ → ℤ) (b j s i : ℕ) where
    abbrev leaf : ℕ
    leaf = (b * r + j) * leaves + s

    -- the term of part a of block c of u
    term : ℕ → ℕ → ℤ
    term a c = pos (root leaf ^ (leaves * (c * r + a))) *ℤ u ((c * r + a) * (leaves * l) + i)

    -- the parts of a block, summed by powers of the root, where each part is a sum over the blocks of u: a sum over the parts of u
    pub cut_part : ((a : ℕ) → a < r → Cong q (x (b * (r * leaves * l) + (a * (leaves * l) + i))) (remainder u nodes (r * leaves) leaf (a * (leaves * l) + i)))
        → Cong q (sum (λ (a : ℕ). pos (root leaf ^ (leaves * a)) *ℤ x (b * (r * leaves * l) + (a * (leaves * l) + i))) r) (remainder u
        (nodes * r) leaves leaf i)
    unfolding term
    cut_part at =
        cong_trans
        (sum-cong (λ (a : ℕ). pos (root leaf ^ (leaves * a)) *ℤ x (b * (r * leaves * l) + (a * (leaves * l) + i))) (λ (a : ℕ). sum (term a) nodes) r
        (λ a h.
        cong_trans (cong-mul (cong_refl (pos (root leaf ^ (leaves * a)))) (at a h))
        (cong-eq
        (sym (sum_times (pos (root leaf ^ (leaves * a))) (λ (c : ℕ). pos (root leaf ^ (r * leaves * c)) *ℤ u (c * (r * leaves * l) + (a *
        (leaves * l) + i))) nodes)
        ∙ sum_same
        (λ (c : ℕ). pos (root leaf ^ (leaves * a)) *ℤ (pos (root leaf ^ (r * leaves * c)) *ℤ u (c * (r * leaves * l) + (a * (leaves * l) + i)))) (term a) nodes
        (λ c g.
        one_power (root leaf) (leaves * a) (r * leaves * c) (leaves * (c * r + a))
        (omega (arith, mul-add leaves (c * r) a, mul_comm (r * leaves) c, mul_assoc c r leaves, mul_comm leaves (c * r)))
        (u (c * (r * leaves * l) + (a * (leaves * l) + i)))
        ∙ ap (λ (y : ℕ). pos (root leaf ^ (leaves * (c * r + a))) *ℤ u y)
        (ap (λ (y : ℕ). c * y + (a * (leaves * l) + i)) (mul_assoc r leaves l) ∙ sym (part_place c r a (leaves * l) i)))))))
        (cong-eq
        (sum_swap term r nodes
        ∙ sym (sum_rows (λ (c : ℕ). pos (root leaf ^ (leaves * c)) *ℤ u (c * (leaves * l) + i)) nodes r)))

  -- what stands for the blocks of y below node b of so many leaves, at place v of block e
  abbrev combination : (ℕ → ℤ) → ℕ → ℕ → ℕ → ℕ → ℤ
  combination y m b e v = sum (λ (s : ℕ). pos (root (b * m + s) ^ e) *ℤ y ((b * m + s) * l + v)) m

  module _ (twist : ℕ → ℕ) (y x : ℕ → ℤ) (b : ℕ)
      (twisted : (j s : ℕ) → j < r → s < leaves → Cong q (pos (twist j)) (pos (root ((b * r + j) * leaves + s) ^ leaves))) (a e v : ℕ) where
    -- the term of leaf s of part j
    join_term : ℕ → ℕ → ℤ
    join_term j s = pos (root ((b * r + j) * leaves + s) ^ (a * leaves + e)) *ℤ y (((b * r + j) * leaves + s) * l + v)

    -- sums over the leaves of each part, summed by powers of the parts' twists: a sum over all leaves
    pub join_part : ((j : ℕ) → j < r → Cong q (x ((b * r + j) * (leaves * l) + (e * l + v))) (combination y leaves (b * r + j) e v))
        → Cong q (sum (λ (j : ℕ). pos (twist j ^ a) *ℤ x ((b * r + j) * (leaves * l) + (e * l + v))) r) (combination y (r * leaves) b (a * leaves + e) v)
    unfolding join_term
    join_part at =
        cong_trans
        (sum-cong (λ (j : ℕ). pos (twist j ^ a) *ℤ x ((b * r + j) * (leaves * l) + (e * l + v))) (λ (j : ℕ). sum (join_term j) leaves) r
        (λ j h.
        cong_trans (cong-mul (cong_refl (pos (twist j ^ a))) (at j h))
        (cong_trans
        (cong-eq (sym (sum_times (pos (twist j ^ a))
        (λ (s : ℕ). pos (root ((b * r + j) * leaves + s) ^ e) *ℤ y (((b * r + j) * leaves + s) * l + v)) leaves)))
        (sum-cong (λ (s : ℕ). pos (twist j ^ a) *ℤ (pos (root ((b * r + j) * leaves + s) ^ e) *ℤ y (((b * r + j) * leaves + s) * l + v))) (join_term j) leaves
        (λ s g.
        let leaf = (b * r + j) * leaves + s in
        cong_trans
        (cong-mul (power_cong (twisted j s h g) a) (cong_refl (pos (root leaf ^ e) *ℤ y (leaf * l + v))))
        (cong-eq
        (ap (λ (z : ℕ). pos z *ℤ (pos (root leaf ^ e) *ℤ y (leaf * l + v))) (pow-pow (root leaf) leaves a)
        ∙ one_power (root leaf) (leaves * a) e (a * leaves + e) (omega (arith, mul_comm leaves a)) (y (leaf * l + v)))))))))
        (cong-eq
        (sum_same (λ (j : ℕ). sum (join_term j) leaves)
        (λ (j : ℕ). sum (λ (s : ℕ). pos (root (b * (r * leaves) + (j * leaves + s)) ^ (a * leaves + e)) *ℤ y ((b * (r * leaves) +
        (j * leaves + s)) * l + v)) leaves) r
        (λ j h. sum_same (join_term j)
        (λ (s : ℕ). pos (root (b * (r * leaves) + (j * leaves + s)) ^ (a * leaves + e)) *ℤ y ((b * (r * leaves) + (j * leaves + s)) * l + v)) leaves
        (λ s g. ap (λ (z : ℕ). pos (root z ^ (a * leaves + e)) *ℤ y (z * l + v)) (part_place b r j leaves s)))
        ∙ sym (sum_rows (λ (s : ℕ). pos (root (b * (r * leaves) + s) ^ (a * leaves + e)) *ℤ y ((b * (r * leaves) + s) * l + v)) r leaves)))
