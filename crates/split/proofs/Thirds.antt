-- A level of thirds: it cuts the one block of all numbers into three, and joins them.
-- Assumes nothing.
use mathlib.Core.Path.{◌≡◌, refl, sym, ap, ap₂, ◌∙◌}
use mathlib.Core.List.{List}
use Prim.Native.Nat.{ℕ, zero, suc, ◌+◌, ◌*◌, ◌/◌, ◌^◌, ◌%◌, ◌<◌}
use native.Mathlib.Nat.{add-mul, mul_assoc, mul_comm, zero-mul, one-mul, pow-zero, pow-suc, mul-le-mul_right, mod-lt, div-add-mod}
use native.Mathlib.Omega.{arith}
use lib.IntN.{ℤ, pos, ◌+ℤ◌, ◌*ℤ◌}
use lib.ListN.{length, get_or}
use Rattle.algebra.specs.Integer.{sum}
use Rattle.algebra.proofs.All.{below_at}
use Rattle.algebra.proofs.Congruence.{Cong, cong_refl, cong-eq, cong_sym, cong_trans, cong-mul, cong-residue, residue-eq, eq-residue}
use Rattle.algebra.proofs.Remainder.{pow-pow}
use Rattle.algebra.proofs.Ring.{*ℤ_idl}
use Rattle.algebra.proofs.Sum.{sum-cong, sum_same}
use Rattle.transform.specs.Convolution.{entry}
use Rattle.split.specs.Levels.{UnderIn, Tripled, Tree, Cut, CutFurther, Joined, JoinedFurther, root_of}
use Rattle.split.proofs.LevelLaws.{under_at}
use Rattle.split.proofs.TreeLaws.{cut_part, join_part, power_cong}
use Rattle.split.proofs.Twisting.{third_twist, third_twisted}
use Rattle.split.proofs.TreeBounds.{positive, sum_three, div_below}
use Rattle.split.proofs.Joining.{power_one}
use Rattle.split.proofs.PairValues.{third_high_lem}

power_two : (x : ℕ) → x ^ 2 ≡ x * x
power_two x = pow-suc x 1 ∙ ap (λ (y : ℕ). y * x) (power_one x)

module _ {q : ℕ} {twists : List ℕ} (tree : Tree q 3 twists) (third l : ℕ) (all : 3 * third ≡ length twists) (some : 0 < third) {old new : List ℕ}
    (under : UnderIn (61 * q) old 0 (third * l + third * l + third * l))
    (thirds : Tripled q (get_or twists 1 0) (get_or twists 2 0) (third * l) old new (third * l)) where
  abbrev root : ℕ → ℕ
  root = root_of q twists

  abbrev h : ℕ
  h = third * l

  -- the twist of third j, and its square
  abbrev twist : ℕ → ℕ
  twist = third_twist tree.twisted (positive tree)

  -- power a of the twist of third j: of 1, c and d, where c c = d and d d = c
  cell : ℕ → ℕ → ℕ
  cell zero a = 1
  cell (suc j) zero = 1
  cell (suc zero) (suc zero) = get_or twists 1 0
  cell (suc zero) (suc (suc a)) = get_or twists 2 0
  cell (suc (suc j)) (suc zero) = get_or twists 2 0
  cell (suc (suc j)) (suc (suc a)) = get_or twists 1 0

  twist_below : (j : ℕ) → 0 < j → j < 3 → get_or twists j 0 < q
  twist_below j h l = below_at q twists tree.twisted.below j (omega (arith, all))

  square : (x y : ℕ) → x * x % q ≡ y → Cong q (pos (x ^ 2)) (pos y)
  square x y e = cong_trans (cong-eq (ap pos (power_two x))) (cong_trans (cong-residue (positive tree) (pos (x * x))) (cong-eq (ap pos e)))

  powers : (j a : ℕ) → j < 3 → a < 3 → Cong q (pos (twist j ^ a)) (pos (cell j a))
  unfolding cell
  powers zero zero hj ha = cong-eq (ap pos (pow-zero 1))
  powers zero (suc zero) hj ha = cong-eq (ap pos (power_one 1))
  powers zero (suc (suc zero)) hj ha = cong-eq (ap pos (power_two 1))
  powers zero (suc (suc (suc a))) hj ha = absurd (omega arith)
  powers (suc j) zero hj ha = cong-eq (ap pos (pow-zero (twist (suc j))))
  powers (suc zero) (suc zero) hj ha = cong-eq (ap pos (power_one (get_or twists 1 0)))
  powers (suc zero) (suc (suc zero)) hj ha = square (get_or twists 1 0) (get_or twists 2 0) (tree.twisted.squares refl).0
  powers (suc zero) (suc (suc (suc a))) hj ha = absurd (omega arith)
  powers (suc (suc zero)) (suc zero) hj ha = cong-eq (ap pos (power_one (get_or twists 2 0)))
  powers (suc (suc zero)) (suc (suc zero)) hj ha = square (get_or twists 2 0) (get_or twists 1 0) (tree.twisted.squares refl).1
  powers (suc (suc zero)) (suc (suc (suc a))) hj ha = absurd (omega arith)
  powers (suc (suc (suc j))) (suc a) hj ha = absurd (omega arith)

  symmetric : (j a : ℕ) → j < 3 → a < 3 → cell j a ≡ cell a j
  unfolding cell
  symmetric zero zero hj ha = refl
  symmetric zero (suc a) hj ha = refl
  symmetric (suc j) zero hj ha = refl
  symmetric (suc zero) (suc zero) hj ha = refl
  symmetric (suc zero) (suc (suc a)) hj ha = refl
  symmetric (suc (suc j)) (suc zero) hj ha = refl
  symmetric (suc (suc j)) (suc (suc a)) hj ha = refl

  -- number i of third j, of the three thirds before
  abbrev term : (ℕ → ℕ) → ℕ → ℕ → ℤ
  term weight i a = pos (weight a) *ℤ entry old (a * h + i)

  weighed : {v w : ℕ → ℕ} (i : ℕ) → ((a : ℕ) → a < 3 → Cong q (pos (v a)) (pos (w a))) → Cong q (sum (term v i) 3) (sum (term w i) 3)
  weighed {v} {w} i e = sum-cong (term v i) (term w i) 3 (λ a ha. cong-mul (e a ha) (cong_refl (entry old (a * h + i))))

  place0 : (i : ℕ) → 0 * h + i ≡ i
  place0 i = omega (arith, zero-mul h)

  place1 : (i : ℕ) → 1 * h + i ≡ h + i
  place1 i = omega (arith, one-mul h)

  place2 : (i : ℕ) → 2 * h + i ≡ h + h + i
  place2 i = omega (arith, add-mul 1 1 h, one-mul h)

  -- the three terms with their places as the code has them
  in_places : (weight : ℕ → ℕ) (i : ℕ) → weight 0 ≡ 1 → sum (term weight i) 3
      ≡ entry old i +ℤ pos (weight 1) *ℤ entry old (h + i) +ℤ pos (weight 2) *ℤ entry old (h + h + i)
  in_places weight i e =
      sum_three (term weight i)
      ∙ ap₂ ◌+ℤ◌
      (ap₂ ◌+ℤ◌ (ap₂ (λ (x y : ℕ). pos x *ℤ entry old y) e (place0 i) ∙ *ℤ_idl (entry old i)) (ap (λ (y : ℕ). pos (weight 1) *ℤ entry old y) (place1 i)))
      (ap (λ (y : ℕ). pos (weight 2) *ℤ entry old y) (place2 i))

  part_value : (j i : ℕ) → j < 3 → i < h → Cong q (entry new (j * h + i)) (sum (term (cell j) i) 3)
  unfolding cell
  part_value zero i hj hi =
      cong-eq
      (ap pos (ap (λ (x : ℕ). get_or new x 0) (place0 i) ∙ thirds.first i hi)
      ∙ ap₂ ◌+ℤ◌ (ap (λ (x : ℤ). entry old i +ℤ x) (sym (*ℤ_idl (entry old (h + i))))) (sym (*ℤ_idl (entry old (h + h + i))))
      ∙ sym (in_places (cell 0) i refl))
  part_value (suc zero) i hj hi =
      cong_trans (cong-eq (ap pos (ap (λ (x : ℕ). get_or new x 0) (place1 i) ∙ thirds.second i hi)))
      (cong_trans
      (third_high_lem tree.modulus (get_or twists 1 0) (get_or twists 2 0) (get_or old i 0) (get_or old (h + i) 0) (get_or old (h + h + i) 0)
      (twist_below 1 (omega arith) (omega arith)) (twist_below 2 (omega arith) (omega arith))
      (under_at under i (omega arith)) (under_at under (h + i) (omega arith)) (under_at under (h + h + i) (omega arith)))
      (cong-eq (sym (in_places (cell 1) i refl))))
  part_value (suc (suc zero)) i hj hi =
      cong_trans (cong-eq (ap pos (ap (λ (x : ℕ). get_or new x 0) (place2 i) ∙ thirds.third i hi)))
      (cong_trans
      (third_high_lem tree.modulus (get_or twists 2 0) (get_or twists 1 0) (get_or old i 0) (get_or old (h + i) 0) (get_or old (h + h + i) 0)
      (twist_below 2 (omega arith) (omega arith)) (twist_below 1 (omega arith) (omega arith))
      (under_at under i (omega arith)) (under_at under (h + i) (omega arith)) (under_at under (h + h + i) (omega arith)))
      (cong-eq (sym (in_places (cell 2) i refl))))
  part_value (suc (suc (suc j))) i hj hi = absurd (omega arith)

  first_node : (x : ℕ) → (0 * 3 + x) ≡ x
  first_node x = omega arith

  -- ---- cutting
  module _ {u : List ℕ} (cut : Cut q l root u old 1 (length twists)) (j s i : ℕ) (part : j < 3) (inside : s < third) (place : i < h) where
    abbrev leaf : ℕ
    leaf = (0 * 3 + j) * third + s

    leaf_power : (a : ℕ) → a < 3 → Cong q (pos (cell j a)) (pos (root leaf ^ (third * a)))
    leaf_power a ha =
        cong_trans (cong_sym (powers j a part ha))
        (cong_trans (power_cong (third_twisted tree.twisted (positive tree) refl third all j s part inside) a)
        (cong-eq (ap pos (pow-pow (root leaf) third a))))

    above : (a : ℕ) → a < 3
        → Cong q (entry old (0 * (3 * third * l) + (a * h + i)))
        (sum (λ (c : ℕ). pos (root leaf ^ (3 * third * c)) *ℤ entry u (c * (3 * third * l) + (a * h + i))) 1)
    above a ha =
        let below : leaf < length twists = omega (arith, mul-le-mul_right {m = 0 * 3 + j + 1} {n = 3} third (omega arith), add-mul (0 * 3 + j) 1 third, all) in
        let here : a * h + i < length twists * l =
        omega (arith, mul-le-mul_right {m = a + 1} {n = 3} h (omega arith), add-mul a 1 h, mul_assoc 3 third l, ap (λ (x : ℕ). x * l) all) in
        let none : 0 * length twists + leaf ≡ leaf = omega (arith, zero-mul (length twists)) in
        let same : 0 * (length twists * l) + (a * h + i) ≡ 0 * (3 * third * l) + (a * h + i) = omega (
          arith,
          zero-mul (length twists * l),
          zero-mul
              (3 * third * l),
        ) in
        cong_trans (cong-eq (ap (entry old) (sym same)))
        (cong_trans (eq-residue (positive tree) (cut.each 0 leaf (a * h + i) (omega arith) below here))
        (cong-eq
        (ap (λ (x : ℕ). sum (λ (c : ℕ). pos (root x ^ (length twists * c)) *ℤ entry u (c * (length twists * l) + (a * h + i))) 1) none
        ∙ ap (λ (x : ℕ). sum (λ (c : ℕ). pos (root leaf ^ (x * c)) *ℤ entry u (c * (x * l) + (a * h + i))) 1) (sym all))))

    third_cut : Cong q (entry new ((0 * 3 + j) * h + i)) (sum (λ (c : ℕ). pos (root leaf ^ (third * c)) *ℤ entry u (c * h + i)) (1 * 3))
    third_cut =
        cong_trans (cong-eq (ap (λ (x : ℕ). entry new (x * h + i)) (first_node j)))
        (cong_trans (part_value j i part place)
        (cong_trans (weighed i leaf_power)
        (cong_trans
        (cong-eq (sum_same (term (λ (a : ℕ). root leaf ^ (third * a)) i) (λ (a : ℕ). pos (root leaf ^ (third * a)) *ℤ entry old (0 * (3 * third * l) +
        (a * h + i))) 3
        (λ a ha. ap (λ (x : ℕ). pos (root leaf ^ (third * a)) *ℤ entry old x) (omega (arith, zero-mul (3 * third * l))))))
        (cut_part q root 3 1 third l (entry u) (entry old) 0 j s i above))))

  pub thirds_cut : CutFurther q l root 1 (length twists) old 3 third new
  thirds_cut =
      record {
        each = λ u cut. record {
          each = λ b s i hb hs hi.
              residue-eq (positive tree)
              (cong_trans (cong-eq (ap (λ (x : ℕ). entry new (x * h + i)) (sym (first_node b))))
              (cong_trans (third_cut cut b s i hb hs hi)
              (cong-eq (ap (λ (x : ℕ). sum (λ (c : ℕ). pos (root (x * third + s) ^ (third * c)) *ℤ entry u (c * h + i)) 3) (first_node b)))));
        };
      }

  -- ---- joining
  module _ {y : List ℕ} (joined : Joined q l root y old 3 third) (a e v : ℕ) (part : a < 3) (inside : e < third) (place : v < l) where
    below : (j : ℕ) → j < 3
        → Cong q (entry old ((0 * 3 + j) * h + (e * l + v)))
        (sum (λ (s : ℕ). pos (root ((0 * 3 + j) * third + s) ^ e) *ℤ entry y (((0 * 3 + j) * third + s) * l + v)) third)
    below j hj = eq-residue (positive tree) (joined.each (0 * 3 + j) e v (omega arith) inside place)

    third_joined : Cong q (entry new (a * h + (e * l + v)))
        (sum (λ (s : ℕ). pos (root (0 * (3 * third) + s) ^ (a * third + e)) *ℤ entry y ((0 * (3 * third) + s) * l + v)) (3 * third))
    third_joined =
        let within : e * l + v < h = omega (arith, mul-le-mul_right {m = e + 1} {n = third} l (omega arith), add-mul e 1 l) in
        cong_trans (part_value a (e * l + v) part within)
        (cong_trans
        (weighed {v = cell a} {w = λ (j : ℕ). twist j ^ a} (e * l + v)
        (λ j hj. cong_trans (cong-eq (ap pos (symmetric a j part hj))) (cong_sym (powers j a hj part))))
        (cong_trans
        (cong-eq (sum_same (term (λ (j : ℕ). twist j ^ a) (e * l + v)) (λ (j : ℕ). pos (twist j ^ a) *ℤ entry old ((0 * 3 + j) * h + (e * l + v))) 3
        (λ j hj. ap (λ (x : ℕ). pos (twist j ^ a) *ℤ entry old (x * h + (e * l + v))) (sym (first_node j)))))
        (join_part q root 3 1 third l twist (entry y) (entry old) 0
        (λ j s hj hs. third_twisted tree.twisted (positive tree) refl third all j s hj hs) a e v below)))

  pub thirds_joined : JoinedFurther q l root 3 third old 1 (length twists) new
  thirds_joined =
      record {
        each = λ y joined. record {
          each = λ b e v hb he hv.
              let whole = div-add-mod e third in
              let inside = mod-lt e {m = third} some in
              let same : e / third * third + e % third ≡ e = omega (arith, whole, mul_comm third (e / third)) in
              let part : e / third < 3 = div_below e 3 third some (omega (arith, all)) in
              let none : b ≡ 0 = omega arith in
              let place : b * (length twists * l) + (e * l + v) ≡ e / third * h + (e % third * l + v) =
              omega (
                arith,
                ap (λ (x : ℕ). x * (length twists * l)) none,
                zero-mul (length twists * l),
                ap (λ (x : ℕ). x * l) (sym same),
                add-mul (e / third * third) (e % third) l,
                mul_assoc (e / third) third l,
              ) in
              residue-eq (positive tree)
              (cong_trans (cong-eq (ap (entry new) place))
              (cong_trans (third_joined joined (e / third) (e % third) v part inside hv)
              (cong-eq
              (ap (λ (x : ℕ). sum (λ (s : ℕ). pos (root (0 * (3 * third) + s) ^ x) *ℤ entry y ((0 * (3 * third) + s) * l + v)) (3 * third)) same
              ∙ ap (λ (k : ℕ). sum (λ (s : ℕ). pos (root (0 * k + s) ^ e) *ℤ entry y ((0 * k + s) * l + v)) k) all
              ∙ ap (λ (x : ℕ). sum (λ (s : ℕ). pos (root (x * length twists + s) ^ e) *ℤ entry y ((x * length twists + s) * l + v)) (length twists))
              (sym none)))));
        };
      }
