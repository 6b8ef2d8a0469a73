-- The middle stage: sums of products, one term and two terms more; numbers stored one after the other; one row more.
-- Assumes nothing.
use mathlib.Core.Path.{◌≡◌, refl, sym, ap, ap₂, ◌∙◌, subst}
use mathlib.Core.List.{List, [], ◌∷◌, ◌++◌, map, append_assoc, append-nil}
use Prim.Native.Nat.{ℕ, zero, suc, ◌+◌, ◌-◌, ◌*◌, ◌^◌, ◌<◌, ◌≤◌}
use native.Mathlib.Nat.{add-mul, mul-le-mul_right}
use native.Mathlib.Numerals.{add-one}
use native.Mathlib.Omega.{arith}
use borrow.Author.Tests.{eqb-true, eqb-false, ltb-true, ltb-false}
use lib.Dec.{T, eqb, ltb, lt→ltb}
use lib.IntN.{ℤ, pos, nat_abs, ◌+ℤ◌, ◌*ℤ◌}
use lib.ListN.{length, get_or, set, take, drop, length-set, length-drop, drop_of_length-le}
use lib.Seq.{sets, sets-eq, length-sets, length-take-le, get_or-set_same, get_or-set_other, get_or-take, get_or-drop}
use Rattle.algebra.specs.All.{are_below}
use Rattle.algebra.specs.Integer.{residue, sum}
use Rattle.algebra.proofs.All.{all_from, below_at}
use Rattle.algebra.proofs.Congruence.{cong_trans, cong-eq, residue-eq}
use Rattle.algebra.proofs.Remainder.{product_below}
use Rattle.algebra.proofs.Sum.{sum_same}
use Rattle.algebra.proofs.Test.{by_test}
use Rattle.transform.specs.Asks.{dot_at}
use Rattle.transform.specs.Convolution.{entry}
use Rattle.transform.specs.UpFrom.{up_from}
use Rattle.transform.proofs.ConvolutionLaws.{dot_none, dot_more}
use Rattle.transform.proofs.UpFrom.{from_zero_at, up_map-length}
use Rattle.split_tables.specs.Split.{width, row_at}
use Rattle.split.specs.Fold.{Modulus, folded}
use Rattle.split.specs.Levels.{UnderIn, Same}
use Rattle.split.specs.Products.{Products}
use Rattle.split.specs.Values.{Staged}
use Rattle.split.proofs.LevelLaws.{under_at, under_all}
use Rattle.split.proofs.FoldLaws.{folded_below, folded-cong}

-- ---- sums
-- a sum of natural numbers is one
dot_whole : (u v : List ℕ) (k n : ℕ) → dot_at u v k n ≡ pos (nat_abs (dot_at u v k n))
unfolding dot_at
dot_whole u v k zero = refl
dot_whole u v k (suc n) =
    let p = pos (get_or u n 0 * get_or v (k + n) 0) in
    subst (λ (z : ℤ). z +ℤ p ≡ pos (nat_abs (z +ℤ p))) (sym (dot_whole u v k n)) refl

-- the first n numbers of a times as many of b from j on, summed
abbrev pub total : List ℕ → List ℕ → ℕ → ℕ → ℕ
total a b j n = nat_abs (dot_at a b j n)

module _ (a b : List ℕ) (j : ℕ) where
  pub total_none : 0 ≡ total a b j 0
  total_none = ap nat_abs (dot_none a b j)

  total_more : (x : ℕ) → total a b j x + get_or a x 0 * get_or b (j + x) 0 ≡ total a b j (x + 1)
  total_more x = ap nat_abs (dot_more a b j x (sym (dot_whole a b j x)) refl)

  total_two : (x : ℕ) → total a b j x + (get_or a x 0 * get_or b (j + x) 0 + get_or a (x + 1) 0 * get_or b (j + x + 1) 0) ≡ total a b j (x + 2)
  total_two x =
      let f : j + (x + 1) ≡ j + x + 1 = omega arith in
      let g : x + 1 + 1 ≡ x + 2 = omega arith in
      let next = ap (λ (z : ℕ). get_or a (x + 1) 0 * get_or b z 0) f in
      omega (arith, total_more x, total_more (x + 1), next, ap (total a b j) g)

  total-sum : (n : ℕ) → pos (total a b j n) ≡ sum (λ (x : ℕ). entry a x *ℤ entry b (j + x)) n
  unfolding dot_at
  total-sum n = sym (dot_whole a b j n)

  pub summed_more : {s f r at : ℕ} (x : ℕ) → s ≡ total a b j x → f ≡ get_or a x 0 → r ≡ s + f * get_or b at 0 → at ≡ j + x → r ≡ total a b j (x + 1)
  summed_more x is factor value place =
      value ∙ ap₂ ◌+◌ is (ap₂ ◌*◌ factor (ap (λ (y : ℕ). get_or b y 0) place)) ∙ total_more x

  pub summed_two : {s f g p at : ℕ} (x : ℕ) → s ≡ total a b j x → f ≡ get_or a x 0 → g ≡ get_or a (x + 1) 0 → p ≡ f * get_or b at 0 + g * get_or b (at + 1) 0
      → at ≡ j + x → s + p ≡ total a b j (x + 2)
  summed_two x is first second value place =
      ap₂ ◌+◌ is
      (value ∙ ap₂ ◌+◌ (ap₂ ◌*◌ first (ap (λ (y : ℕ). get_or b y 0) place)) (ap₂ ◌*◌ second (ap (λ (y : ℕ). get_or b (y + 1) 0) place)))
      ∙ total_two x

-- a sum of at most 128 products, each below 2^44, can be reduced
module _ (a b : List ℕ) (a-below : T (are_below (2 ^ 24) a)) (b-below : T (are_below (2 ^ 20) b)) where
  total_small : (j n : ℕ) → n ≤ length a → j + n ≤ length b → total a b j n ≤ n * (2 ^ 44 - 1)
  total_small j zero few room = omega (arith, total_none a b j)
  total_small j (suc n) few room =
      let before = total_small j n (omega arith) (omega arith) in
      let product = product_below {m = 2 ^ 24} {n = 2 ^ 20} (below_at (2 ^ 24) a a-below n (omega arith)) (below_at (2 ^ 20) b b-below (j + n) (omega arith)) in
      omega (arith, before, product, total_more a b j n, ap (total a b j) (add-one n))

  pub summed_small : {s : ℕ} (j x : ℕ) → s ≡ total a b j x → x ≤ length a → length a ≤ 128 → j + x ≤ length b → s < 2 ^ 51
  summed_small j x is few short room = omega (arith, is, total_small j x few room)

  -- what one product more asks
  pub summed_asks : {s f at : ℕ} (j x : ℕ) → s ≡ total a b j x → x < length a → length a ≤ 128 → j + length a ≤ length b → f ≡ get_or a x 0 → at ≡ j + x
      → (s < 2 ^ 62) × (f < 2 ^ 24) × (at < length b)
  summed_asks j x is few short room factor place =
      (omega (arith, summed_small j x is (omega arith) short (omega arith)), omega (arith, factor, below_at (2 ^ 24) a a-below x few), omega arith)

-- ---- numbers stored one after the other: f of each number from a on
module _ (f : ℕ → ℕ) where
  -- those of n numbers, then those of m more: a turn's, or the rest
  sets_more : (l : List ℕ) (i a n m : ℕ)
      → sets (sets l i (map f (up_from a n))) (i + n) (map f (up_from (a + n) m)) ≡ sets l i (map f (up_from a (n + m)))
  sets_more l i a zero m =
      let e : i + 0 ≡ i = omega arith in
      let g : a + 0 ≡ a = omega arith in
      let h : 0 + m ≡ m = omega arith in
      ap₂ (λ (x y : ℕ). sets l x (map f (up_from y m))) e g ∙ ap (λ (x : ℕ). sets l i (map f (up_from a x))) (sym h)
  sets_more l i a (suc n) m =
      let e : i + suc n ≡ suc i + n = omega arith in
      let g : a + suc n ≡ suc a + n = omega arith in
      let h : suc (n + m) ≡ suc n + m = omega arith in
      ap₂ (λ (x y : ℕ). sets (sets (set l i (f a)) (suc i) (map f (up_from (suc a) n))) x (map f (up_from y m))) e g
      ∙ sets_more (set l i (f a)) (suc i) (suc a) n m
      ∙ ap (λ (x : ℕ). sets l i (map f (up_from a x))) h

  -- the first n of m, then the rest, from the front on
  pub sets_rest : (l : List ℕ) (n m : ℕ) {y z : List ℕ} → n ≤ m → y ≡ sets l 0 (map f (up_from 0 n)) → z ≡ sets y n (map f (up_from n (m - n)))
      → z ≡ sets l 0 (map f (up_from 0 m))
  sets_rest l n m few first rest =
      let from : n ≡ 0 + n = omega arith in
      let all : n + (m - n) ≡ m = omega arith in
      rest
      ∙ ap₂ (λ (y : List ℕ) (k : ℕ). sets y k (map f (up_from k (m - n)))) first from
      ∙ sets_more l 0 0 n (m - n)
      ∙ ap (λ (k : ℕ). sets l 0 (map f (up_from 0 k))) all

  -- all of them are the numbers
  pub sets_all : (l : List ℕ) {n : ℕ} {y : List ℕ} → length l ≡ n → y ≡ sets l 0 (map f (up_from 0 n)) → y ≡ map f (up_from 0 n)
  sets_all l {n} size is =
      let count = up_map-length f 0 n in
      let vs = map f (up_from 0 n) in
      is ∙ sets-eq vs l 0 (omega arith)
      ∙ ap (λ (r : List ℕ). vs ++ r) (drop_of_length-le l {i = 0 + length vs} (omega arith))
      ∙ append-nil vs

  pub stored_more : (l : List ℕ) (i a n : ℕ) {y : List ℕ} {w at m : ℕ} → y ≡ sets l i (map f (up_from a n)) → w ≡ f (a + n) → at ≡ i + n → n + 1 ≡ m
      → set y at w ≡ sets l i (map f (up_from a m))
  stored_more l i a n {y} {w} {at} {m} is value place next =
      ap₂ (λ (z : List ℕ) (x : ℕ). set z at x) is value
      ∙ ap (λ (x : ℕ). set (sets l i (map f (up_from a n))) x (f (a + n))) place
      ∙ sets_more l i a n 1
      ∙ ap (λ (x : ℕ). sets l i (map f (up_from a x))) next

  -- four of them, from the front on
  pub four_more : (l : List ℕ) (n : ℕ) {y : List ℕ} {a b c d : ℕ} → y ≡ sets l 0 (map f (up_from 0 n))
      → a ≡ f n → b ≡ f (n + 1) → c ≡ f (n + 2) → d ≡ f (n + 3)
      → set (set (set (set y n a) (n + 1) b) (n + 2) c) (n + 3) d ≡ sets l 0 (map f (up_from 0 (n + 4)))
  four_more l n {y} {a} {b} {c} {d} is ea eb ec ed =
      let from : (k : ℕ) → f k ≡ f (0 + k) = λ k. ap f (omega arith) in
      let at : (k : ℕ) → k ≡ 0 + k = λ k. omega arith in
      let next : (k : ℕ) → n + k + 1 ≡ n + (k + 1) = λ k. omega arith in
      let one = stored_more l 0 0 n {m = n + 1} is (ea ∙ from n) (at n) refl in
      let two = stored_more l 0 0 (n + 1) {m = n + 2} one (eb ∙ from (n + 1)) (at (n + 1)) (next 1) in
      let three = stored_more l 0 0 (n + 2) {m = n + 3} two (ec ∙ from (n + 2)) (at (n + 2)) (next 2) in
      stored_more l 0 0 (n + 3) {m = n + 4} three (ed ∙ from (n + 3)) (at (n + 3)) (next 3)

-- a place before them, and a place among them
sets_before : (vs l : List ℕ) (i k : ℕ) → k < i → get_or (sets l i vs) k 0 ≡ get_or l k 0
sets_before [] l i k h = refl
sets_before (v ∷ vs) l i k h = sets_before vs (set l i v) (suc i) k (omega arith) ∙ get_or-set_other l i k v 0 (λ e. omega arith)

sets_at : (vs l : List ℕ) (i k : ℕ) → k < length vs → i + length vs ≤ length l → get_or (sets l i vs) (i + k) 0 ≡ get_or vs k 0
sets_at [] l i k h room = absurd (omega arith)
sets_at (v ∷ vs) l i zero h room =
    let e : i + 0 ≡ i = omega arith in
    ap (λ (x : ℕ). get_or (sets (set l i v) (suc i) vs) x 0) e
    ∙ sets_before vs (set l i v) (suc i) i (omega arith)
    ∙ get_or-set_same l i v 0 (omega arith)
sets_at (v ∷ vs) l i (suc k) h room =
    let e : i + suc k ≡ suc i + k = omega arith in
    ap (λ (x : ℕ). get_or (sets (set l i v) (suc i) vs) x 0) e
    ∙ sets_at vs (set l i v) (suc i) k (omega arith) (omega (arith, length-set l i v))

-- ---- rows
-- the product at place v of a block with its row
abbrev pub product : ℕ → List ℕ → List ℕ → ℕ → ℕ
product q block row v = folded q (total block row v (length block))

pub product_is : (q : ℕ) (block row : List ℕ) (v : ℕ) {r s at : ℕ} → r ≡ folded q s → s ≡ total block row at (length block) → at ≡ v → r ≡ product q block row v
product_is q block row v value is place = value ∙ ap (folded q) (is ∙ ap (λ (y : ℕ). total block row y (length block)) place)

-- a block of l places up to the end of all
pub block_room : (l s k : ℕ) → s < k → s * l + l ≤ k * l
block_room l s k h = omega (arith, mul-le-mul_right {m = s + 1} {n = k} l (omega arith), add-mul s 1 l)

-- the numbers from `from` on, as many as `count`
abbrev pub part : List ℕ → ℕ → ℕ → List ℕ
part x from count = take count (drop from x)

part_at : (x : List ℕ) (from count i : ℕ) → i < count → get_or (part x from count) i 0 ≡ get_or x (from + i) 0
part_at x from count i h = get_or-take count (drop from x) i 0 h ∙ get_or-drop from x i 0

pub part_size : (x : List ℕ) (from count : ℕ) → from + count ≤ length x → length (part x from count) ≡ count
part_size x from count room = length-take-le count (drop from x) (omega (arith, length-drop from x))

part_below : (b : ℕ) (x : List ℕ) (from count : ℕ) → from + count ≤ length x → ((i : ℕ) → i < count → get_or x (from + i) 0 < b)
    → T (are_below b (part x from count))
part_below b x from count room below =
    all_from (λ (v : ℕ). ltb v b) (part x from count) 0
    (λ i h.
    let inside : i < count = omega (arith, part_size x from count room) in
    lt→ltb (get_or (part x from count) i 0) b (omega (arith, part_at x from count i inside, below i inside)))

module _ {q start l : ℕ} {twists rows x : List ℕ} (set : Staged q start l twists rows) (size : length x ≡ length twists * l)
    (under : UnderIn (15 * q) x 0 (length x)) {s : ℕ} (inside : s < length twists) where
  abbrev k : ℕ
  k = length twists

  abbrev modulus : Modulus q
  modulus = set.tree.modulus

  -- the block and the row of root s
  abbrev block : List ℕ
  block = part x (s * l) l

  abbrev row : List ℕ
  row = part rows (s * width l) (width l)

  block_size : length block ≡ l
  block_size = part_size x (s * l) l (omega (arith, size, block_room l s k inside))

  row_size : length row ≡ width l
  row_size = part_size rows (s * width l) (width l) (omega (arith, set.rows_size, block_room (width l) s k inside))

  pub row_asks : (T (are_below (2 ^ 24) block) × (length block ≤ 128)) × (T (are_below (2 ^ 20) row) × (length row + 1 ≡ length block + length block))
  row_asks = (
    (
      part_below (2 ^ 24) x (s * l) l (omega (arith, size, block_room l s k inside))
          (λ i h. omega (arith, under_at under (s * l + i) (omega (arith, size, block_room l s k inside)), modulus.to)),
      omega (arith, block_size, set.short),
    ),
    (
      part_below (2 ^ 20) rows (s * width l) (width l) (omega (arith, set.rows_size, block_room (width l) s k inside))
          (λ i h. omega (arith, below_at q rows set.rows_below (s * width l + i) (omega (arith, set.rows_size, block_room (width l) s k inside)), modulus.to)),
      omega (arith, row_size, block_size, set.some),
    ),
  )

  -- a sum of row s
  abbrev sum_at : ℕ → ℕ
  sum_at v = total block row v (length block)

  sum_small : (v : ℕ) → v < l → sum_at v < 2 ^ 51
  sum_small v h =
      summed_small block row row_asks.0.0 row_asks.1.0 v (length block) refl (omega arith) row_asks.0.1 (omega (arith, row_asks.1.1, block_size))

  row_below : (v : ℕ) → v < l → folded q (sum_at v) < 3 * q
  row_below v h = folded_below modulus (sum_at v) (sum_small v h)

  row_same : (v : ℕ) → v < l → Same q (pos (folded q (sum_at v))) (sum (λ (i : ℕ). entry x (s * l + i) *ℤ pos (row_at l rows s (v + i))) l)
  row_same v h =
      residue-eq (omega (arith, modulus.from))
      (cong_trans (folded-cong modulus (sum_at v) (sum_small v h))
      (cong-eq
      (total-sum block row v (length block)
      ∙ ap (sum (λ (i : ℕ). entry block i *ℤ entry row (v + i))) block_size
      ∙ sum_same (λ (i : ℕ). entry block i *ℤ entry row (v + i)) (λ (i : ℕ). entry x (s * l + i) *ℤ pos (row_at l rows s (v + i))) l
      (λ i b.
      ap₂ (λ (y z : ℕ). pos y *ℤ pos z) (part_at x (s * l) l i b) (part_at rows (s * width l) (width l) (v + i) (omega arith))))))

  -- row s is stored: numbers in the place of so many of y
  module _ (y : List ℕ) {z vs : List ℕ} (room : s * l + l ≤ length y) (is : z ≡ take (s * l) y ++ (vs ++ drop (s * l + l) y))
      (numbers : vs ≡ map (product q block row) (up_from 0 (length block))) where
    vs_size : length vs ≡ l
    vs_size = ap length numbers ∙ up_map-length (product q block row) 0 (length block) ∙ block_size

    stored : z ≡ sets y (s * l) vs
    stored =
        is
        ∙ sym (append_assoc (take (s * l) y) vs (drop (s * l + l) y))
        ∙ ap (λ (n : ℕ). take (s * l) y ++ vs ++ drop (s * l + n) y) (sym vs_size)
        ∙ sym (sets-eq vs y (s * l) (omega (arith, vs_size)))

    pub stored_size : length z ≡ length y
    stored_size = ap length stored ∙ length-sets y (s * l) vs

    stored_before : (v : ℕ) → v < s * l → get_or z v 0 ≡ get_or y v 0
    stored_before v h = ap (λ (t : List ℕ). get_or t v 0) stored ∙ sets_before vs y (s * l) v h

    stored_at : (v : ℕ) → v < l → get_or z (s * l + v) 0 ≡ folded q (sum_at v)
    stored_at v h =
        ap (λ (t : List ℕ). get_or t (s * l + v) 0) stored
        ∙ sets_at vs y (s * l) v (omega (arith, vs_size)) (omega (arith, vs_size))
        ∙ ap (λ (t : List ℕ). get_or t v 0) numbers
        ∙ from_zero_at (product q block row) (length block) v 0 (omega (arith, block_size))

    pub under_more : UnderIn (3 * q) y 0 (s * l) → UnderIn (3 * q) z 0 ((s + 1) * l)
    under_more before =
        under_all (λ v h. by_test (ltb v (s * l))
        (λ t. let less = ltb-true v (s * l) t in omega (arith, under_at before v less, stored_before v less))
        (λ t.
        let more = ltb-false v (s * l) t in
        let inside : v - s * l < l = omega (arith, add-mul s 1 l) in
        let at : v ≡ s * l + (v - s * l) = omega arith in
        omega (arith, row_below (v - s * l) inside, stored_at (v - s * l) inside, ap (λ (i : ℕ). get_or z i 0) at)))

    pub products_more : Products q s l x rows y → Products q (s + 1) l x rows z
    products_more before =
        record {
          each = λ a v h b. by_test (eqb a s)
              (λ t.
              let same = eqb-true a s t in
              subst (λ (i : ℕ). Same q (entry z (i * l + v)) (sum (λ (k : ℕ). entry x (i * l + k) *ℤ pos (row_at l rows i (v + k))) l)) (sym same)
              (ap (λ (i : ℕ). residue (pos i) q) (stored_at v b) ∙ row_same v b))
              (λ t.
              let less : a < s = (let other = eqb-false a s t in omega arith) in
              let early : a * l + v < s * l = omega (arith, block_room l a s less) in
              ap (λ (i : ℕ). residue (pos i) q) (stored_before (a * l + v) early) ∙ before.each a v less b);
        }
