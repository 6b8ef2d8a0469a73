-- A level of halves joins: what each block stands for above it.
-- Assumes nothing.
use mathlib.Core.Path.{◌≡◌, sym, ap, ap₂, ◌∙◌}
use mathlib.Core.List.{List}
use Prim.Native.Nat.{ℕ, ◌+◌, ◌*◌, ◌/◌, ◌^◌, ◌%◌, ◌<◌}
use native.Mathlib.Nat.{add-mul, mul_assoc, mul_comm, zero-mul, one-mul, pow-zero, pow-suc, mul-le-mul_right, mod-lt, div-add-mod}
use native.Mathlib.Omega.{arith}
use borrow.Author.Tests.{eqb-true, eqb-false}
use lib.Dec.{eqb}
use lib.IntN.{ℤ, pos, ◌+ℤ◌, ◌*ℤ◌}
use lib.ListN.{length, get_or}
use Rattle.algebra.specs.Integer.{sum}
use Rattle.algebra.proofs.Congruence.{Cong, cong-eq, cong_trans, residue-eq, eq-residue}
use Rattle.algebra.proofs.Ring.{*ℤ_idl}
use Rattle.algebra.proofs.Test.{by_test}
use Rattle.transform.specs.Convolution.{entry}
use Rattle.split_tables.specs.Split.{PowerOfTwo}
use Rattle.split.specs.Levels.{UnderIn, Level, Tree, Joined, JoinedFurther, root_of, join_low, join_high}
use Rattle.split.proofs.TreeLaws.{join_part}
use Rattle.split.proofs.LevelLaws.{node_room}
use Rattle.split.proofs.Twisting.{half_twist, half_twisted}
use Rattle.split.proofs.TreeBounds.{positive, twist_below, old_below, sum_two, half_some, div_below}
use Rattle.split.proofs.PairValues.{join_high_lem}

-- powers 0 and 1 of a factor
pub power_zero : (x : ℕ) (v : ℤ) → pos (x ^ 0) *ℤ v ≡ v
power_zero x v = ap (λ (y : ℕ). pos y *ℤ v) (pow-zero x) ∙ *ℤ_idl v

pub power_one : (x : ℕ) → x ^ 1 ≡ x
power_one x = pow-suc x 0 ∙ ap (λ (y : ℕ). y * x) (pow-zero x) ∙ one-mul x

module _ {q start : ℕ} {twists : List ℕ} (tree : Tree q start twists) (l : ℕ) where
  abbrev root : ℕ → ℕ
  root = root_of q twists

  module _ (nodes half : ℕ) (all : nodes * (2 * half) ≡ length twists) (two : PowerOfTwo half) {old new : List ℕ}
      (under : UnderIn (61 * q) old 0 (length twists * l))
      (level : Level (join_low q) (join_high q) (λ (b : ℕ). get_or twists (nodes + b) 0) (half * l) old new nodes) where
    abbrev h : ℕ
    h = half * l

    module _ (b : ℕ) (node : b < nodes) where
      abbrev twist : ℕ → ℕ
      twist = half_twist tree.twisted (positive tree) nodes b

      -- the same place of the two blocks below, by powers of their twists
      abbrev term : ℕ → ℕ → ℕ → ℤ
      term a w j = pos (twist j ^ a) *ℤ entry old ((b * 2 + j) * h + w)

      -- half a of the node's block
      part_value : (a w : ℕ) → a < 2 → w < h → Cong q (entry new (b * (2 * h) + (a * h + w))) (sum (term a w) 2)
      part_value a w ha hw =
          let room = node_room h b nodes node in
          let low : b * (2 * h) + w ≡ (b * 2 + 0) * h + w = omega (arith, add-mul (b * 2) 0 h, mul_assoc b 2 h, zero-mul h) in
          let high : b * (2 * h) + h + w ≡ (b * 2 + 1) * h + w = omega (arith, add-mul (b * 2) 1 h, mul_assoc b 2 h, one-mul h) in
          by_test (eqb a 0)
          (λ t.
          let none = eqb-true a 0 t in
          let place : b * (2 * h) + (a * h + w) ≡ b * (2 * h) + w = omega (arith, ap (λ (x : ℕ). x * h) none, zero-mul h) in
          cong-eq
          (ap pos (ap (λ (x : ℕ). get_or new x 0) place ∙ level.first b w node hw)
          ∙ ap₂ (λ (x y : ℕ). entry old x +ℤ entry old y) low high
          ∙ ap₂ ◌+ℤ◌ (sym (power_zero (twist 0) (entry old ((b * 2 + 0) * h + w)))) (sym (power_zero (twist 1) (entry old ((b * 2 + 1) * h + w))))
          ∙ sym (sum_two (term 0 w))
          ∙ ap (λ (x : ℕ). sum (term x w) 2) (sym none)))
          (λ t.
          let one : a ≡ 1 = omega (arith, eqb-false a 0 t) in
          let place : b * (2 * h) + (a * h + w) ≡ b * (2 * h) + h + w = omega (arith, ap (λ (x : ℕ). x * h) one, one-mul h) in
          cong_trans (cong-eq (ap pos (ap (λ (x : ℕ). get_or new x 0) place ∙ level.second b w node hw)))
          (cong_trans
          (join_high_lem tree.modulus (get_or twists (nodes + b) 0) (get_or old (b * (2 * h) + w) 0) (get_or old (b * (2 * h) + h + w) 0)
          (twist_below tree nodes half all two b node)
          (old_below nodes half l all under (b * (2 * h) + w) (omega (arith, room)))
          (old_below nodes half l all under (b * (2 * h) + h + w) (omega (arith, room))))
          (cong-eq
          (ap₂ (λ (x y : ℕ). pos (twist 0) *ℤ entry old x +ℤ pos (twist 1) *ℤ entry old y) low high
          ∙ ap₂ (λ (x y : ℕ). pos x *ℤ entry old ((b * 2 + 0) * h + w) +ℤ pos y *ℤ entry old ((b * 2 + 1) * h + w))
          (sym (power_one (twist 0))) (sym (power_one (twist 1)))
          ∙ sym (sum_two (term 1 w))
          ∙ ap (λ (x : ℕ). sum (term x w) 2) (sym one)))))

      module _ {y : List ℕ} (joined : Joined q l root y old (nodes + nodes) half) (a e v : ℕ) (part : a < 2) (inside : e < half) (place : v < l) where
        below : (j : ℕ) → j < 2
            → Cong q (entry old ((b * 2 + j) * h + (e * l + v)))
            (sum (λ (s : ℕ). pos (root ((b * 2 + j) * half + s) ^ e) *ℤ entry y (((b * 2 + j) * half + s) * l + v)) half)
        below j hj = eq-residue (positive tree) (joined.each (b * 2 + j) e v (omega arith) inside place)

        half_joined : Cong q (entry new (b * (2 * h) + (a * h + (e * l + v))))
            (sum (λ (s : ℕ). pos (root (b * (2 * half) + s) ^ (a * half + e)) *ℤ entry y ((b * (2 * half) + s) * l + v)) (2 * half))
        half_joined =
            let within : e * l + v < h = omega (arith, mul-le-mul_right {m = e + 1} {n = half} l (omega arith), add-mul e 1 l) in
            cong_trans (part_value a (e * l + v) part within)
            (join_part q root 2 nodes half l twist (entry y) (entry old) b
            (λ j s hj hs. half_twisted tree.twisted (positive tree) nodes half all two b j s node hj hs) a e v below)

    pub level_joins : JoinedFurther q l root (nodes + nodes) half old nodes (2 * half) new
    level_joins =
        record {
          each = λ y joined. record {
            each = λ b e v hb he hv.
                let whole = div-add-mod e half in
                let inside = mod-lt e {m = half} (half_some two) in
                let same : e / half * half + e % half ≡ e = omega (arith, whole, mul_comm half (e / half)) in
                let part : e / half < 2 = div_below e 2 half (half_some two) he in
                let place : b * (2 * half * l) + (e * l + v) ≡ b * (2 * h) + (e / half * h + (e % half * l + v)) =
                omega (
                  arith,
                  ap (λ (x : ℕ). b * x) (mul_assoc 2 half l),
                  ap (λ (x : ℕ). x * l) (sym same),
                  add-mul (e / half * half) (e % half) l,
                  mul_assoc (e / half) half l,
                ) in
                residue-eq (positive tree)
                (cong_trans (cong-eq (ap (entry new) place))
                (cong_trans (half_joined b hb joined (e / half) (e % half) v part inside hv)
                (cong-eq (ap (λ (x : ℕ). sum (λ (s : ℕ). pos (root (b * (2 * half) + s) ^ x) *ℤ entry y ((b * (2 * half) + s) * l + v)) (2 * half)) same))));
          };
        }
