-- Where a loop over the levels is in the tree: so many nodes, of so many leaves each; and how large the numbers are there.
-- Assumes nothing.
use mathlib.Core.Path.{◌≡◌, refl, sym, ap, ◌∙◌}
use mathlib.Core.List.{List}
use mathlib.Core.Logic.{⊎_elim}
use Prim.Native.Nat.{ℕ, suc, ◌+◌, ◌-◌, ◌*◌, ◌/◌, ◌^◌, ◌%◌, ◌<◌, ◌≤◌}
use native.Mathlib.Nat.{add-mul, mul-add, mul_assoc, mul_comm, mul-one, pow-zero, pow-suc}
use native.Mathlib.Nat.{mod-lt, div-add-mod, mul-div_cancel, mul-le-mul_right, pow-le-pow_right, one-le-pow, mul-le-mul_left}
use native.Mathlib.Omega.{arith}
use lib.ListN.{length, get_or}
use Rattle.algebra.proofs.Test.{lt_or_le}
use Rattle.split_tables.specs.Split.{PowerOfTwo}
use Rattle.split.specs.Levels.{UnderIn, Level, Tree}
use Rattle.split.proofs.LevelLaws.{under_at, under_all}
use Rattle.split.proofs.TreeBounds.{div_below, positive_factor}

pub record Height (start k nodes leaves : ℕ) : Type 0 where
  pub up : ℕ
  pub down : ℕ
  pub nodes_are : nodes ≡ start * 2 ^ up
  pub leaves_are : leaves ≡ 2 ^ down
  pub shallow : up + down ≤ 4
  pub all : nodes * leaves ≡ k

pub power_of : {start k nodes leaves : ℕ} → Height start k nodes leaves → PowerOfTwo leaves
power_of at = record { exponent = at.down; is = at.leaves_are }

-- at most four levels
pub leaves_few : {start k nodes leaves : ℕ} → Height start k nodes leaves → leaves ≤ 16
leaves_few at = omega (arith, at.leaves_are, pow-le-pow_right {n = 2} (omega arith) {i = at.down} {j = 4} (omega (arith, at.shallow)))

pub start_some : {q start : ℕ} {twists : List ℕ} → Tree q start twists → 0 < start
start_some tree = ⊎_elim (λ e. omega (arith, e)) (λ e. omega (arith, e)) tree.starts

pub nodes_least : {start k nodes leaves : ℕ} → Height start k nodes leaves → start ≤ nodes
nodes_least {start} at = omega (arith, at.nodes_are, mul-le-mul_left start (one-le-pow at.up 2 (omega arith)), mul-one start)

-- the first nodes, and the last
pub height_first : {q start : ℕ} {twists : List ℕ} → Tree q start twists → Height start (length twists) start (length twists / start)
height_first {q} {start} tree =
    record {
      up = 0;
      down = tree.depth.exponent;
      nodes_are = sym (ap (λ (x : ℕ). start * x) (pow-zero 2) ∙ mul-one start);
      leaves_are = tree.depth.is;
      shallow = omega (arith, tree.shallow);
      all = tree.parts;
    }

pub first_up : {q start : ℕ} {twists : List ℕ} (tree : Tree q start twists) → (height_first tree).up ≡ 0
unfolding height_first
first_up tree = refl

pub height_last : {q start : ℕ} {twists : List ℕ} → Tree q start twists → Height start (length twists) (length twists) 1
height_last {q} {start} {twists} tree =
    record {
      up = tree.depth.exponent;
      down = 0;
      nodes_are = sym (ap (λ (x : ℕ). start * x) (sym tree.depth.is) ∙ tree.parts);
      leaves_are = sym (pow-zero 2);
      shallow = omega (arith, tree.shallow);
      all = mul-one (length twists);
    }

double : (n : ℕ) → n + n ≡ n * 2
double n = omega arith

-- ---- a level down
module _ {start k nodes leaves : ℕ} (at : Height start k nodes leaves) (more : 1 < leaves) where
  -- the exponent is not 0
  lower : (d : ℕ) → leaves ≡ 2 ^ d → (d ≡ 0 → ⊥)
  lower d e none = omega (arith, e, ap (λ (x : ℕ). 2 ^ x) none, pow-zero 2)

  abbrev below : ℕ
  below = at.down - 1

  half_is : leaves ≡ 2 ^ below * 2
  half_is =
      let e : at.down ≡ suc below = omega (arith, lower at.down at.leaves_are) in
      at.leaves_are ∙ ap (λ (x : ℕ). 2 ^ x) e ∙ pow-suc 2 below

  half_of : leaves / 2 ≡ 2 ^ below
  half_of = ap (λ (x : ℕ). x / 2) half_is ∙ mul-div_cancel (2 ^ below) (omega arith)

  pub two_halves : 2 * (leaves / 2) ≡ leaves
  two_halves = omega (arith, half_of, half_is)

  pub height_down : Height start k (nodes + nodes) (leaves / 2)
  height_down =
      record {
        up = suc at.up;
        down = below;
        nodes_are = double nodes ∙ ap (λ (x : ℕ). x * 2) at.nodes_are ∙ mul_assoc start (2 ^ at.up) 2 ∙ ap (λ (x : ℕ). start * x) (sym (pow-suc 2
            at.up));
        leaves_are = half_of;
        shallow = omega (arith, at.shallow, lower at.down at.leaves_are);
        all = ap (λ (x : ℕ). x * (leaves / 2)) (double nodes) ∙ mul_assoc nodes 2 (leaves / 2) ∙ ap (λ (x : ℕ). nodes * x) two_halves ∙ at.all;
      }

  pub down_up : height_down.up ≡ suc at.up
  unfolding height_down
  down_up = refl

-- ---- a level up
module _ {start k nodes leaves : ℕ} (at : Height start k nodes leaves) (more : start < nodes) where
  higher : (u : ℕ) → nodes ≡ start * 2 ^ u → (u ≡ 0 → ⊥)
  higher u e none = omega (arith, e, ap (λ (x : ℕ). start * 2 ^ x) none, ap (λ (x : ℕ). start * x) (pow-zero 2), mul-one start)

  abbrev above : ℕ
  above = at.up - 1

  pairs_are : nodes ≡ start * 2 ^ above * 2
  pairs_are =
      let e : at.up ≡ suc above = omega (arith, higher at.up at.nodes_are) in
      at.nodes_are ∙ ap (λ (x : ℕ). start * 2 ^ x) e ∙ ap (λ (x : ℕ). start * x) (pow-suc 2 above) ∙ sym (mul_assoc start (2 ^ above) 2)

  pairs_of : nodes / 2 ≡ start * 2 ^ above
  pairs_of = ap (λ (x : ℕ). x / 2) pairs_are ∙ mul-div_cancel (start * 2 ^ above) (omega arith)

  pub two_pairs : nodes / 2 + nodes / 2 ≡ nodes
  two_pairs = omega (arith, pairs_of, pairs_are)

  pub height_up : Height start k (nodes / 2) (leaves + leaves)
  height_up =
      record {
        up = above;
        down = suc at.down;
        nodes_are = pairs_of;
        leaves_are = double leaves ∙ ap (λ (x : ℕ). x * 2) at.leaves_are ∙ sym (pow-suc 2 at.down);
        shallow = omega (arith, at.shallow, higher at.up at.nodes_are);
        all = mul-add (nodes / 2) leaves leaves ∙ sym (add-mul (nodes / 2) (nodes / 2) leaves) ∙ ap (λ (x : ℕ). x * leaves) two_pairs ∙ at.all;
      }

-- ---- how large the numbers are after a level
module _ {low high : ℕ → ℕ → ℕ → ℕ} {c : ℕ → ℕ} {h n old-bound new-bound : ℕ} {old new : List ℕ} (level : Level low high c h old new n)
    (under : UnderIn old-bound old 0 (n * (2 * h)))
    (grows : (b x y : ℕ) → b < n → x < old-bound → y < old-bound → (low (c b) x y < new-bound) × (high (c b) x y < new-bound)) where
  one_under : (k : ℕ) → k < n * (2 * h) → get_or new k 0 < new-bound
  one_under k l =
      let size : 0 < 2 * h = positive_factor k n (2 * h) l in
      let b = k / (2 * h) in
      let r = k % (2 * h) in
      let node : b < n = div_below k n (2 * h) size l in
      let inside = mod-lt k {m = 2 * h} size in
      let whole : b * (2 * h) + r ≡ k = omega (arith, div-add-mod k (2 * h), mul_comm (2 * h) b) in
      let room : b * (2 * h) + (h + h) ≤ n * (2 * h) = omega (arith, mul-le-mul_right {m = b + 1} {n = n} (2 * h) (omega arith), add-mul b 1 (2 * h)) in
      ⊎_elim
      (λ (first : r < h).
      let pair = grows b (get_or old (b * (2 * h) + r) 0) (get_or old (b * (2 * h) + h + r) 0) node (under_at under (b * (2 * h) + r) (omega (arith, room)))
      (under_at under (b * (2 * h) + h + r) (omega (arith, room))) in
      omega (arith, pair.0, level.first b r node first, ap (λ (i : ℕ). get_or new i 0) whole))
      (λ (second : h ≤ r).
      let i = r - h in
      let here : b * (2 * h) + h + i ≡ k = omega (arith, whole) in
      let pair = grows b (get_or old (b * (2 * h) + i) 0) (get_or old (b * (2 * h) + h + i) 0) node (under_at under (b * (2 * h) + i) (omega (arith, room)))
      (under_at under (b * (2 * h) + h + i) (omega (arith, room))) in
      omega (arith, pair.1, level.second b i node (omega (arith, inside)), ap (λ (i : ℕ). get_or new i 0) here))
      (lt_or_le r h)

  pub level_under : UnderIn new-bound new 0 (n * (2 * h))
  level_under = under_all one_under
