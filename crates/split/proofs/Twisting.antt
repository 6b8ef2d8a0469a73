-- What the roots below a node have to a power: the twist of their half of the node, or of their third.
-- Assumes nothing.
use mathlib.Core.Path.{◌≡◌, sym, ap, ap₂, ◌∙◌}
use mathlib.Core.Bool.{cond}
use mathlib.Core.List.{List}
use Prim.Native.Nat.{ℕ, ◌+◌, ◌-◌, ◌*◌, ◌/◌, ◌^◌, ◌%◌, ◌<◌}
use native.Mathlib.Nat.{add-mul, mul_comm, mul_assoc, mul-add-div_right, mul-add-mod_self_right, div-eq_of_lt, mod-eq_of_lt, mul-div_cancel, mul-le-mul_right}
use native.Mathlib.Omega.{arith}
use lib.Dec.{eqb}
use lib.IntN.{pos}
use lib.ListN.{get_or}
use Rattle.algebra.proofs.Congruence.{Cong, cong-eq, cong_sym, cong_trans, eq-residue}
use Rattle.split_tables.specs.Split.{PowerOfTwo, Twists, twist_at, third_at, root_at}

-- leaf s of part j of node b
leaf_over : (b r j half s : ℕ) → s < half → ((b * r + j) * half + s) / half ≡ b * r + j
leaf_over b r j half s h = mul-add-div_right {m = half} (omega arith) (b * r + j) s ∙ ap (λ (x : ℕ). b * r + j + x) (div-eq_of_lt h) ∙ omega arith

module _ {q k start : ℕ} {twists : List ℕ} (twisted : Twists q k start twists) (positive : 0 < q) where
  root_power : (nodes half s : ℕ) → nodes * (2 * half) ≡ k → PowerOfTwo half → s < k
      → Cong q (pos (root_at q twists k s ^ half)) (pos (twist_at q twists nodes half s))
  root_power nodes half s e two h =
      eq-residue positive {a = pos (root_at q twists k s ^ half)} {b = pos (twist_at q twists nodes half s)} (twisted.halves nodes half s e two h)

  -- ---- halves
  -- the twist of half j of node b
  abbrev pub half_twist : ℕ → ℕ → ℕ → ℕ
  half_twist nodes b j = cond (eqb j 0) (get_or twists (nodes + b) 0) (q - get_or twists (nodes + b) 0)

  module _ (nodes half : ℕ) (all : nodes * (2 * half) ≡ k) (two : PowerOfTwo half) (b j s : ℕ) (node : b < nodes) (part : j < 2) (inside : s < half) where
    abbrev leaf : ℕ
    leaf = (b * 2 + j) * half + s

    leaf_below : leaf < k
    leaf_below =
        let up = mul-le-mul_right {m = b * 2 + j + 1} {n = nodes * 2} half (omega arith) in
        omega (arith, up, add-mul (b * 2 + j) 1 half, mul_assoc nodes 2 half, all)

    at_twist : twist_at q twists nodes half leaf ≡ half_twist nodes b j
    at_twist =
        let place : leaf ≡ b * (2 * half) + (j * half + s) = omega (arith, add-mul (b * 2) j half, mul_assoc b 2 half) in
        let less : j * half + s < 2 * half = omega (arith, mul-le-mul_right {m = j + 1} {n = 2} half (omega arith), add-mul j 1 half) in
        let side : leaf / half % 2 ≡ j =
        ap (λ (x : ℕ). x % 2) (leaf_over b 2 j half s inside) ∙ mul-add-mod_self_right b 2 j ∙ mod-eq_of_lt part in
        let over : leaf / (2 * half) ≡ b =
        ap (λ (x : ℕ). x / (2 * half)) place
        ∙ mul-add-div_right {m = 2 * half} (omega arith) b (j * half + s) ∙ ap (λ (x : ℕ). b + x) (div-eq_of_lt less) ∙ omega arith in
        ap₂ (λ (x y : ℕ). cond (eqb x 0) (get_or twists (nodes + y) 0) (q - get_or twists (nodes + y) 0)) side over

    pub half_twisted : Cong q (pos (half_twist nodes b j)) (pos (root_at q twists k leaf ^ half))
    half_twisted = cong_sym (cong_trans (root_power nodes half leaf all two leaf_below) (cong-eq (ap pos at_twist)))

  -- ---- thirds
  abbrev pub third_twist : ℕ → ℕ
  third_twist j = cond (eqb j 0) 1 (get_or twists j 0)

  module _ (three : start ≡ 3) (third : ℕ) (all : 3 * third ≡ k) (j s : ℕ) (part : j < 3) (inside : s < third) where
    pub third_twisted : Cong q (pos (third_twist j)) (pos (root_at q twists k ((0 * 3 + j) * third + s) ^ third))
    third_twisted =
        let leaf = (0 * 3 + j) * third + s in
        let each : k / 3 ≡ third = ap (λ (x : ℕ). x / 3) (sym all ∙ mul_comm 3 third) ∙ mul-div_cancel third (omega arith) in
        let over : leaf / third ≡ j = leaf_over 0 3 j third s inside ∙ omega arith in
        let below : leaf < k = omega (arith, mul-le-mul_right {m = 0 * 3 + j + 1} {n = 3} third (omega arith), add-mul (0 * 3 + j) 1 third, all) in
        cong_sym
        (cong_trans
        (eq-residue positive {a = pos (root_at q twists k leaf ^ third)} {b = pos (third_at twists k leaf)}
        (ap (λ (x : ℕ). root_at q twists k leaf ^ x % q) (sym each) ∙ twisted.thirds three leaf below))
        (cong-eq (ap pos
        (ap (λ (x : ℕ). cond (eqb (leaf / x) 0) 1 (get_or twists (leaf / x) 0)) each ∙ ap (λ (x : ℕ). cond (eqb x 0) 1 (get_or twists x 0)) over))))
