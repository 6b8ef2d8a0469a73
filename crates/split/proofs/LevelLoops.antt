-- The loops over the levels, one level at a time.
-- Assumes nothing.
use mathlib.Core.Path.{◌≡◌, refl, sym, ap, ◌∙◌, subst}
use mathlib.Core.List.{List}
use Prim.Native.Nat.{ℕ, ◌+◌, ◌*◌, ◌/◌, ◌<◌, ◌≤◌}
use native.Mathlib.Nat.{add-mul, mul_assoc, mul_comm, mul-one, mul-div_cancel, mul-le-mul_right}
use native.Mathlib.Omega.{arith}
use lib.ListN.{length, get_or}
use Rattle.parameters.specs.Limits.{max_n}
use Rattle.split_tables.specs.Split.{PowerOfTwo}
use Rattle.split.specs.Levels.{UnderIn, Level, Tree, Cut, CutFurther, Joined, JoinedFurther, root_of, cut_low, cut_high, join_low, join_high}
use Rattle.split.proofs.TreeBounds.{nodes_size, twist_below, half_some}
use Rattle.split.proofs.PairValues.{cut_grows, join_high_below}
use Rattle.split.proofs.Heights.{Height, height_first, first_up, down_up, height_last, height_down, height_up}
use Rattle.split.proofs.Heights.{two_halves, two_pairs, power_of, leaves_few, level_under, nodes_least, start_some}
use Rattle.split.proofs.Cutting.{level_cuts}
use Rattle.split.proofs.Joining.{level_joins}

-- numbers below something are below what is larger
pub under_weaker : {a b n : ℕ} {x : List ℕ} → a ≤ b → UnderIn a x 0 n → UnderIn b x 0 n
under_weaker le under = record { each = λ k l. omega (arith, under.each k l) }

pub under_shorter : {a m n : ℕ} {x : List ℕ} → m ≤ n → UnderIn a x 0 n → UnderIn a x 0 m
under_shorter le under = record { each = λ k l. under.each k (omega arith) }

-- ---- a level of so many nodes, of two halves each: what it asks
module _ {q start : ℕ} {twists : List ℕ} (tree : Tree q start twists) (l nodes half : ℕ) (halves : nodes * (2 * half) ≡ length twists)
    (two : PowerOfTwo half) (x : List ℕ) (room : length x ≡ length twists * l) where
  level_size : nodes * (2 * (half * l)) ≡ length x
  level_size = nodes_size nodes half l (length twists) halves ∙ sym room

  level_asks : length x ≤ max_n → UnderIn (61 * q) x 0 (length x)
      → (nodes * (2 * (half * l)) ≤ length x) × (length x ≤ max_n) × UnderIn (61 * q) x 0 (nodes * (2 * (half * l)))
  level_asks most under = (omega (arith, level_size), most, under_shorter (omega (arith, level_size)) under)

-- ---- downwards
pub record CutTo (q start l : ℕ) (twists old new : List ℕ) (nodes leaves : ℕ) : Type 0 where
  pub at : Height start (length twists) nodes leaves
  pub size : length new ≡ length old
  pub under : UnderIn ((3 + 3 * at.up) * q) new 0 (length new)
  pub cut : CutFurther q l (root_of q twists) start (length twists / start) old nodes leaves new

module _ {q start : ℕ} {twists : List ℕ} (tree : Tree q start twists) (l : ℕ) {old : List ℕ} where
  pub cut_first : UnderIn (3 * q) old 0 (length old) → CutTo q start l twists old old start (length twists / start)
  cut_first under =
      let bound : (3 + 3 * (height_first tree).up) * q ≡ 3 * q = ap (λ (x : ℕ). (3 + 3 * x) * q) (first_up tree) in
      record { at = height_first tree; size = refl; under = under_weaker (omega (arith, bound)) under; cut = record { each = λ u c. c } }

  module _ {new : List ℕ} {nodes leaves : ℕ} (s : CutTo q start l twists old new nodes leaves) (more : 1 < leaves) (room : length old ≡ length twists * l) where
    abbrev half : ℕ
    half = leaves / 2

    halves : nodes * (2 * half) ≡ length twists
    halves = ap (λ (x : ℕ). nodes * x) (two_halves s.at more) ∙ s.at.all

    half_power : PowerOfTwo half
    half_power = power_of (height_down s.at more)

    cut_bound : (3 + 3 * s.at.up) * q ≤ 15 * q
    cut_bound = mul-le-mul_right q (omega (arith, s.at.shallow))

    cut_under : UnderIn (61 * q) new 0 (length new)
    cut_under = under_weaker (omega (arith, cut_bound)) s.under

    pub cut_asks : length old ≤ max_n
        → (nodes * (2 * (half * l)) ≤ length new) × (length new ≤ max_n) × UnderIn (61 * q) new 0 (nodes * (2 * (half * l)))
    cut_asks most = level_asks tree l nodes half halves half_power new (s.size ∙ room) (omega (arith, s.size)) cut_under

    pub cut_next : {next : List ℕ} → Level (cut_low q) (cut_high q) (λ (b : ℕ). get_or twists (nodes + b) 0) (half * l) new next nodes
        → CutTo q start l twists old next (nodes + nodes) half
    cut_next level =
        let size = level_size tree l nodes half halves half_power new (s.size ∙ room) in
        let grown : (3 + 3 * s.at.up) * q + 3 * q ≡ (3 + 3 * (height_down s.at more).up) * q =
        sym (add-mul (3 + 3 * s.at.up) 3 q) ∙ ap (λ (x : ℕ). x * q) (omega (arith, down_up s.at more)) in
        let larger = level_under {old-bound = (3 + 3 * s.at.up) * q} {new-bound = (3 + 3 * s.at.up) * q + 3 * q} level
        (under_shorter (omega (arith, size)) s.under)
        (λ b x y hb hx hy.
        cut_grows tree.modulus (get_or twists (nodes + b) 0) x y (twist_below tree nodes half halves half_power b hb) (omega (arith, cut_bound)) (omega
        (arith, cut_bound)) hx) in
        record {
          at = height_down s.at more;
          size = level.size ∙ s.size;
          under = under_weaker (omega (arith, grown)) (under_shorter (omega (arith, size, level.size)) larger);
          cut = record {
            each = λ u c.
                (level_cuts tree l nodes half halves half_power (under_shorter (omega (arith, s.size, room)) cut_under) level).each u
                (subst (Cut q l (root_of q twists) u new nodes) (sym (two_halves s.at more)) (s.cut.each u c));
          };
        }

-- ---- upwards
pub record JoinTo (q start l : ℕ) (twists old new : List ℕ) (nodes leaves : ℕ) : Type 0 where
  pub at : Height start (length twists) nodes leaves
  pub size : length new ≡ length old
  pub under : UnderIn (3 * leaves * q) new 0 (length new)
  pub joined : JoinedFurther q l (root_of q twists) (length twists) 1 old nodes leaves new

module _ {q start : ℕ} {twists : List ℕ} (tree : Tree q start twists) (l : ℕ) {old : List ℕ} where
  pub join_first : UnderIn (3 * q) old 0 (length old) → JoinTo q start l twists old old (length twists) 1
  join_first under = record { at = height_last tree; size = refl; under = under; joined = record { each = λ u c. c } }

  module _ {new : List ℕ} {nodes leaves : ℕ} (s : JoinTo q start l twists old new nodes leaves) (more : start < nodes)
      (room : length old ≡ length twists * l) where
    abbrev pairs : ℕ
    pairs = nodes / 2

    doubles : pairs * (2 * leaves) ≡ length twists
    doubles =
        sym (mul_assoc pairs 2 leaves) ∙ ap (λ (x : ℕ). x * leaves) (omega (arith, two_pairs s.at more)) ∙ s.at.all

    join_bound : 3 * leaves * q ≤ 48 * q
    join_bound = mul-le-mul_right q (omega (arith, leaves_few s.at))

    join_under : UnderIn (61 * q) new 0 (length new)
    join_under = under_weaker (omega (arith, join_bound)) s.under

    pub join_asks : length old ≤ max_n
        → (pairs * (2 * (leaves * l)) ≤ length new) × (length new ≤ max_n) × UnderIn (61 * q) new 0 (pairs * (2 * (leaves * l)))
    join_asks most = level_asks tree l pairs leaves doubles (power_of s.at) new (s.size ∙ room) (omega (arith, s.size)) join_under

    pub join_next : {next : List ℕ} → Level (join_low q) (join_high q) (λ (b : ℕ). get_or twists (pairs + b) 0) (leaves * l) new next pairs
        → JoinTo q start l twists old next pairs (leaves + leaves)
    join_next {next} level =
        let size = level_size tree l pairs leaves doubles (power_of s.at) new (s.size ∙ room) in
        let some : 1 ≤ leaves = half_some (power_of s.at) in
        let least : 3 * q ≤ 3 * leaves * q = mul-le-mul_right q (omega (arith, some)) in
        let twice : 3 * leaves * q + 3 * leaves * q ≡ 3 * (leaves + leaves) * q = sym (add-mul (3 * leaves) (3 * leaves) q) ∙ ap (λ (x : ℕ). x * q)
        (omega arith) in
        let larger = level_under {old-bound = 3 * leaves * q} {new-bound = 3 * leaves * q + 3 * leaves * q} level
        (under_shorter (omega (arith, size)) s.under)
        (λ b x y hb hx hy. (
          omega arith,
          omega (
            arith,
            least,
            join_high_below tree.modulus (get_or twists (pairs + b) 0) x y (twist_below tree pairs leaves doubles (power_of s.at) b hb)
                (omega (arith, join_bound)) (omega (arith, join_bound)),
          ),
        )) in
        record {
          at = height_up s.at more;
          size = level.size ∙ s.size;
          under = under_weaker (omega (arith, twice)) (under_shorter (omega (arith, size, level.size)) larger);
          joined = record {
            each = λ y c.
                subst (Joined q l (root_of q twists) y next pairs) (omega arith)
                ((level_joins tree l pairs leaves doubles (power_of s.at) (under_shorter (omega (arith, s.size, room)) join_under) level).each y
                (subst (λ (n : ℕ). Joined q l (root_of q twists) y new n leaves) (sym (two_pairs s.at more)) (s.joined.each y c)));
          };
        }

-- ---- the ends of the loops
pub cut_done : {q start l : ℕ} {twists old new : List ℕ} {nodes leaves : ℕ} → CutTo q start l twists old new nodes leaves → leaves ≤ 1
    → UnderIn (15 * q) new 0 (length new) × CutFurther q l (root_of q twists) start (length twists / start) old (length twists) 1 new
cut_done {q} {start} {l} {twists} {old} {new} {nodes} {leaves} s last =
    let one : leaves ≡ 1 = omega (arith, last, half_some (power_of s.at)) in
    let all : nodes ≡ length twists = sym (mul-one nodes) ∙ ap (λ (x : ℕ). nodes * x) (sym one) ∙ s.at.all in
    let bound : (3 + 3 * s.at.up) * q ≤ 15 * q = mul-le-mul_right q (omega (arith, s.at.shallow)) in
    let first = CutFurther q l (root_of q twists) start (length twists / start) old in
    (under_weaker bound s.under, subst (λ (n : ℕ). first n 1 new) all (subst (λ (m : ℕ). first nodes m new) one s.cut))

pub join_done : {q start l : ℕ} {twists old new : List ℕ} {nodes leaves : ℕ} → Tree q start twists → JoinTo q start l twists old new nodes leaves
    → nodes ≤ start
    → UnderIn (48 * q) new 0 (length new) × JoinedFurther q l (root_of q twists) (length twists) 1 old start (length twists / start) new
join_done {q} {start} {l} {twists} {old} {new} {nodes} {leaves} tree s last =
    let same : nodes ≡ start = omega (arith, last, nodes_least s.at) in
    let all : leaves ≡ length twists / start =
    sym (mul-div_cancel leaves (start_some tree)) ∙ ap (λ (x : ℕ). x / start) (mul_comm leaves start ∙ ap (λ (x : ℕ). x * leaves) (sym same) ∙ s.at.all) in
    let bound : 3 * leaves * q ≤ 48 * q = mul-le-mul_right q (omega (arith, leaves_few s.at)) in
    let first = JoinedFurther q l (root_of q twists) (length twists) 1 old in
    (under_weaker bound s.under, subst (λ (n : ℕ). first n (length twists / start) new) same (subst (λ (m : ℕ). first nodes m new) all s.joined))
