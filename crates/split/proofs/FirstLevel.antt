-- The first level: thirds, or nothing.
-- Assumes nothing.
use mathlib.Core.Path.{◌≡◌, sym, ap, ◌∙◌, subst}
use mathlib.Core.List.{List}
use mathlib.Core.Logic.{⊎_elim}
use Prim.Native.Nat.{ℕ, ◌+◌, ◌-◌, ◌*◌, ◌/◌, ◌^◌, ◌<◌, ◌≤◌}
use native.Mathlib.Nat.{add-zero, zero-mul, one-mul, mul-one, mul_assoc, mul-le-mul_right, div-one}
use native.Mathlib.Omega.{arith}
use lib.IntN.{ℤ, pos, ◌*ℤ◌, +ℤ_idl}
use lib.ListN.{length, get_or}
use Rattle.algebra.specs.Integer.{residue}
use Rattle.algebra.proofs.All.{below_at}
use Rattle.algebra.proofs.Test.{lt_or_le}
use Rattle.transform.specs.Convolution.{entry}
use Rattle.split.specs.Levels.{UnderIn, Tripled, Tree, Cut, CutFurther, Joined, JoinedFurther, Threefold, root_of}
use Rattle.split.proofs.LevelLaws.{under_at, under_all}
use Rattle.split.proofs.TreeBounds.{half_some}
use Rattle.split.proofs.PairValues.{third_high_below}
use Rattle.split.proofs.TreeLaws.{power_none}
use Rattle.split.proofs.Joining.{power_zero}
use Rattle.split.proofs.Thirds.{thirds_cut, thirds_joined}

-- what the first level asks and gives, where it takes thirds
module _ {q : ℕ} {twists : List ℕ} (tree : Tree q 3 twists) (l : ℕ) {old : List ℕ} (room : length old ≡ length twists * l)
    (under : UnderIn (48 * q) old 0 (length old)) where
  abbrev third : ℕ
  third = length twists / 3

  some : 0 < third
  some = half_some tree.depth

  abbrev h : ℕ
  h = third * l

  pub thirds_size : h + h + h ≡ length old
  thirds_size = omega (arith, room, mul_assoc 3 third l, ap (λ (x : ℕ). x * l) tree.parts)

  pub thirds_under : UnderIn (61 * q) old 0 (h + h + h)
  thirds_under = record { each = λ k m. omega (arith, under.each k (omega (arith, thirds_size))) }

  pub several_twists : 2 < length twists
  several_twists = omega (arith, some, tree.parts)

  pub first_twist : get_or twists 1 0 < q
  first_twist = below_at q twists tree.twisted.below 1 (omega (arith, several_twists))

  pub second_twist : get_or twists 2 0 < q
  second_twist = below_at q twists tree.twisted.below 2 several_twists

  module _ {new : List ℕ} (thirds : Tripled q (get_or twists 1 0) (get_or twists 2 0) h old new h) where
    old_at : (n : ℕ) → UnderIn (n * q) old 0 (length old) → (k : ℕ) → k < h + h + h → get_or old k 0 < n * q
    old_at n small k m = under_at small k (omega (arith, thirds_size))

    module _ (n : ℕ) (several : 0 < n) (small : UnderIn (n * q) old 0 (length old)) where
      least : 3 * q ≤ 3 * n * q
      least = mul-le-mul_right q (omega arith)

      thrice : 3 * n * q ≡ n * q + n * q + n * q
      thrice = mul_assoc 3 n q ∙ omega arith

      one_under : (k : ℕ) → k < h + h + h → get_or new k 0 < 3 * n * q
      one_under k m =
          ⊎_elim
          (λ (a : k < h).
          omega (
            arith,
            thirds.first k a,
            thrice,
            old_at n small k (omega arith),
            old_at n small (h + k) (omega arith),
            old_at n small (h + h + k)
                (omega arith),
          ))
          (λ (a : h ≤ k).
          ⊎_elim
          (λ (b : k < h + h).
          let i = k - h in
          let at : h + i ≡ k = omega arith in
          omega (
            arith,
            ap (λ (j : ℕ). get_or new j 0) at,
            thirds.second i (omega arith),
            least,
            third_high_below tree.modulus (get_or twists 1 0) (get_or twists 2 0) (get_or old i 0) (get_or old (h + i) 0) (get_or old
                (h + h + i) 0) first_twist second_twist
                (under_at thirds_under i (omega arith)) (under_at thirds_under (h + i) (omega arith)) (under_at thirds_under (h + h + i) (omega arith)),
          ))
          (λ (b : h + h ≤ k).
          let i = k - (h + h) in
          let at : h + h + i ≡ k = omega arith in
          omega (
            arith,
            ap (λ (j : ℕ). get_or new j 0) at,
            thirds.third i (omega arith),
            least,
            third_high_below tree.modulus (get_or twists 2 0) (get_or twists 1 0) (get_or old i 0) (get_or old (h + i) 0) (get_or old
                (h + h + i) 0) second_twist first_twist
                (under_at thirds_under i (omega arith)) (under_at thirds_under (h + i) (omega arith)) (under_at thirds_under (h + h + i) (omega arith)),
          ))
          (lt_or_le k (h + h)))
          (lt_or_le k h)

    pub thirds_threefold : Threefold q old new
    thirds_threefold =
        record {
          each = λ n several small. under_all (λ k m. one_under n several small k (omega (arith, thirds.size, thirds_size)));
        }

    pub thirds_further : CutFurther q l (root_of q twists) 1 (length twists) old 3 third new
    thirds_further = thirds_cut tree third l tree.parts some thirds_under thirds

    pub thirds_back : JoinedFurther q l (root_of q twists) 3 third old 1 (length twists) new
    thirds_back = thirds_joined tree third l tree.parts some thirds_under thirds

-- where it does nothing
module _ (q l : ℕ) {start : ℕ} (twists x : List ℕ) (one : start ≡ 1) where
  whole : length twists ≡ length twists / start
  whole = sym (ap (λ (n : ℕ). length twists / n) one ∙ div-one (length twists))

  pub none_further : CutFurther q l (root_of q twists) 1 (length twists) x start (length twists / start) x
  none_further =
      subst (λ (n : ℕ). CutFurther q l (root_of q twists) 1 (length twists) x n (length twists / start) x) (sym one)
      (subst (λ (m : ℕ). CutFurther q l (root_of q twists) 1 (length twists) x 1 m x) whole (record { each = λ u c. c }))

-- ---- what stands before the first level is cut, and what is joined before any: what they are
module _ (q k l : ℕ) (root : ℕ → ℕ) (x : List ℕ) where
  pub cut_none : Cut q l root x x 1 k
  cut_none =
      record {
        each = λ b s i hb hs hi.
            let none : b ≡ 0 = omega arith in
            ap (λ (z : ℤ). residue z q)
            (ap (λ (n : ℕ). entry x (n * (k * l) + i)) none
            ∙ sym (+ℤ_idl (pos (root (b * k + s) ^ (k * 0)) *ℤ entry x (0 * (k * l) + i)) ∙ power_none (root (b * k + s)) k (entry x (0 * (k * l) + i))));
      }

  pub join_none : Joined q l root x x k 1
  join_none =
      record {
        each = λ b e v hb he hv.
            let none : e ≡ 0 = omega arith in
            let place : b * (1 * l) + (0 * l + v) ≡ (b * 1 + 0) * l + v =
            omega (arith, ap (λ (n : ℕ). b * n) (one-mul l), zero-mul l, ap (λ (n : ℕ). n * l) (add-zero (b * 1) ∙ mul-one b)) in
            ap (λ (z : ℤ). residue z q)
            (ap (λ (n : ℕ). entry x (b * (1 * l) + (n * l + v))) none
            ∙ ap (entry x) place
            ∙ sym (power_zero (root (b * 1 + 0)) (entry x ((b * 1 + 0) * l + v)))
            ∙ ap (λ (n : ℕ). pos (root (b * 1 + 0) ^ n) *ℤ entry x ((b * 1 + 0) * l + v)) (sym none)
            ∙ sym (+ℤ_idl (pos (root (b * 1 + 0) ^ e) *ℤ entry x ((b * 1 + 0) * l + v))));
      }
