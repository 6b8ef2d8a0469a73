-- A level of halves cuts: what each block stands for below it.
-- Assumes nothing.
use mathlib.Core.Path.{◌≡◌, sym, ap, ap₂, ◌∙◌}
use mathlib.Core.List.{List}
use Prim.Native.Nat.{ℕ, ◌+◌, ◌*◌, ◌/◌, ◌^◌, ◌%◌, ◌<◌, ◌≤◌}
use native.Mathlib.Nat.{add-mul, mul_assoc, zero-mul, one-mul, mul-one, mul-le-mul_right, mod-lt, div-add-mod}
use native.Mathlib.Omega.{arith}
use borrow.Author.Tests.{eqb-true, eqb-false}
use lib.Dec.{eqb}
use lib.IntN.{ℤ, pos, ◌+ℤ◌, ◌*ℤ◌}
use lib.ListN.{length, get_or}
use Rattle.algebra.specs.Integer.{sum}
use Rattle.algebra.proofs.Congruence.{Cong, cong-eq, cong_trans, cong-add, cong-mul, residue-eq, eq-residue}
use Rattle.algebra.proofs.Test.{by_test}
use Rattle.transform.specs.Convolution.{entry}
use Rattle.split_tables.specs.Split.{PowerOfTwo}
use Rattle.split.specs.Levels.{UnderIn, Level, Tree, Cut, CutFurther, root_of, cut_low, cut_high}
use Rattle.split.proofs.TreeLaws.{cut_part, part_place, power_none}
use Rattle.split.proofs.LevelLaws.{node_room}
use Rattle.split.proofs.Twisting.{half_twist, half_twisted}
use Rattle.split.proofs.TreeBounds.{positive, twist_below, old_below, sum_two}
use Rattle.split.proofs.PairValues.{cut_low_lem, cut_high_lem}

module _ {q start : ℕ} {twists : List ℕ} (tree : Tree q start twists) (l : ℕ) where
  abbrev root : ℕ → ℕ
  root = root_of q twists

  module _ (nodes half : ℕ) (all : nodes * (2 * half) ≡ length twists) (two : PowerOfTwo half) {old new : List ℕ}
      (under : UnderIn (61 * q) old 0 (length twists * l))
      (level : Level (cut_low q) (cut_high q) (λ (b : ℕ). get_or twists (nodes + b) 0) (half * l) old new nodes) where
    abbrev h : ℕ
    h = half * l

    module _ (b : ℕ) (node : b < nodes) where
      abbrev low : ℕ → ℕ
      low i = b * (2 * h) + i

      abbrev high : ℕ → ℕ
      high i = b * (2 * h) + h + i

      room : b * (2 * h) + (h + h) ≤ nodes * (2 * h)
      room = node_room h b nodes node

      -- half j of the node's block
      part_value : (j i : ℕ) → j < 2 → i < h → Cong q (entry new ((b * 2 + j) * h + i)) (entry old (low i) +ℤ pos (half_twist tree.twisted
          (positive tree) nodes b j) *ℤ entry old (high i))
      part_value j i hj hi =
          by_test (eqb j 0)
          (λ t.
          let place : (b * 2 + j) * h + i ≡ low i = omega (
            arith,
            eqb-true j 0 t,
            add-mul (b * 2) j h,
            mul_assoc b 2 h,
            ap (λ (x : ℕ). x * h)
                (eqb-true j 0 t),
            zero-mul h,
          ) in
          rw t
          (cong_trans (cong-eq (ap pos (ap (λ (x : ℕ). get_or new x 0) place ∙ level.first b i node hi)))
          (cut_low_lem tree.modulus (get_or twists (nodes + b) 0) (get_or old (low i) 0) (get_or old (high i) 0) (twist_below tree nodes half all two b node)
          (old_below nodes half l all under (low i) (omega (arith, room))) (old_below nodes half l all under (high i) (omega (arith, room))))))
          (λ t.
          let one : j ≡ 1 = omega (arith, eqb-false j 0 t) in
          let place : (b * 2 + j) * h + i ≡ high i = omega (arith, add-mul (b * 2) j h, mul_assoc b 2 h, ap (λ (x : ℕ). x * h) one, one-mul h) in
          rw t
          (cong_trans (cong-eq (ap pos (ap (λ (x : ℕ). get_or new x 0) place ∙ level.second b i node hi)))
          (cut_high_lem tree.modulus (get_or twists (nodes + b) 0) (get_or old (low i) 0) (get_or old (high i) 0) (twist_below tree nodes half all two b node)
          (old_below nodes half l all under (low i) (omega (arith, room))) (old_below nodes half l all under (high i) (omega (arith, room))))))

      module _ {u : List ℕ} (cut : Cut q l root u old nodes (2 * half)) (j s i : ℕ) (part : j < 2) (inside : s < half) (place : i < h) where
        abbrev leaf : ℕ
        leaf = (b * 2 + j) * half + s

        -- the two halves of the block above, by the root's powers
        abbrev term : ℕ → ℤ
        term a = pos (root leaf ^ (half * a)) *ℤ entry old (b * (2 * half * l) + (a * h + i))

        terms : Cong q (entry new ((b * 2 + j) * h + i)) (sum term 2)
        terms =
            let at0 : low i ≡ b * (2 * half * l) + (0 * h + i) = omega (arith, ap (λ (x : ℕ). b * x) (mul_assoc 2 half l), zero-mul h) in
            let at1 : high i ≡ b * (2 * half * l) + (1 * h + i) = omega (arith, ap (λ (x : ℕ). b * x) (mul_assoc 2 half l), one-mul h) in
            cong_trans (part_value j i part place)
            (cong_trans
            (cong-add
            (cong-eq (ap (entry old) at0 ∙ sym (power_none (root leaf) half (entry old (b * (2 * half * l) + (0 * h + i))))))
            (cong-mul
            (cong_trans (half_twisted tree.twisted (positive tree) nodes half all two b j s node part inside)
            (cong-eq (ap (λ (x : ℕ). pos (root leaf ^ x)) (sym (mul-one half)))))
            (cong-eq (ap (entry old) at1))))
            (cong-eq (sym (sum_two term))))

        above : (a : ℕ) → a < 2
            → Cong q (entry old (b * (2 * half * l) + (a * h + i)))
            (sum (λ (c : ℕ). pos (root leaf ^ (2 * half * c)) *ℤ entry u (c * (2 * half * l) + (a * h + i))) nodes)
        above a ha =
            let which : b * (2 * half) + (j * half + s) ≡ leaf = sym (part_place b 2 j half s) in
            let few : j * half + s < 2 * half = omega (arith, mul-le-mul_right {m = j + 1} {n = 2} half (omega arith), add-mul j 1 half) in
            let here : a * h + i < 2 * half * l = omega (arith, mul-le-mul_right {m = a + 1} {n = 2} h (omega arith), add-mul a 1 h, mul_assoc 2 half l) in
            cong_trans (eq-residue (positive tree) (cut.each b (j * half + s) (a * h + i) node few here))
            (cong-eq (ap (λ (x : ℕ). sum (λ (c : ℕ). pos (root x ^ (2 * half * c)) *ℤ entry u (c * (2 * half * l) + (a * h + i))) nodes) which))

        half_cut : Cong q (entry new ((b * 2 + j) * h + i)) (sum (λ (c : ℕ). pos (root leaf ^ (half * c)) *ℤ entry u (c * h + i)) (nodes * 2))
        half_cut = cong_trans terms (cut_part q root 2 nodes half l (entry u) (entry old) b j s i above)

    pub level_cuts : CutFurther q l root nodes (2 * half) old (nodes + nodes) half new
    level_cuts =
        record {
          each = λ u cut. record {
            each = λ b s i hb hs hi.
                let whole = div-add-mod b 2 in
                let part = mod-lt b {m = 2} (omega arith) in
                let same : b / 2 * 2 + b % 2 ≡ b = omega (arith, whole) in
                let double : nodes * 2 ≡ nodes + nodes = omega arith in
                residue-eq (positive tree)
                (cong_trans (cong-eq (ap (λ (x : ℕ). entry new (x * h + i)) (sym same)))
                (cong_trans (half_cut (b / 2) (omega (arith, same)) cut (b % 2) s i part hs hi)
                (cong-eq (ap₂ (λ (x n : ℕ). sum (λ (c : ℕ). pos (root (x * half + s) ^ (half * c)) *ℤ entry u (c * h + i)) n) same double))));
          };
        }
