-- Each table that is a split's passes the test: for a sound p, `SplitTable p t` gives `has_split p t ≡ true`. So a ring's test asks no more of tables than that
-- they are a split's. The order, the rows and the test may each name a generator of their own: they are one modulo N, and g to the N is 1 modulo q.
-- Assumes nothing.
use mathlib.Core.Path.{◌≡◌, refl, sym, ap, subst, ◌∙◌}
use mathlib.Core.Bool.{Bool, true, false, not, cond, ◌&&◌}
use mathlib.Core.List.{List, [], ◌∷◌}
use mathlib.Core.Logic.{⊎_elim}
use Prim.Native.Nat.{ℕ, suc, ◌+◌, ◌-◌, ◌*◌, ◌/◌, ◌^◌, ◌%◌, ◌<◌, ◌≤◌, zero-le, suc-le-suc}
use native.Mathlib.Nat.{add-zero, zero-add, add-suc, suc-add, one-mul, mul_comm, mod-mod, pow-suc}
use native.Mathlib.Omega.{arith}
use borrow.Author.Tests.{eq-eqb, ltb-false}
use lib.Dec.{T, eqb, ltb, lt→ltb, le→leb, eqb→eq, not_T}
use lib.ListN.{length, get_or, take, drop, length-drop, get_or-eq_default}
use lib.Seq.{get_or-drop, drop-drop}
use Rattle.std.proofs.lemmas.List.{get_or_default}
use Rattle.algebra.specs.All.{all}
use Rattle.algebra.specs.Powers.{follows, is_power_table}
use Rattle.algebra.proofs.All.{all_from}
use Rattle.algebra.proofs.Remainder.{mod-mul_left, pow_of_mod}
use Rattle.algebra.proofs.Test.{and_intro, true_holds, holds_true, cond_by, lt_or_le}
use Rattle.parameters.specs.declared.Params.{Params}
use Rattle.parameters.specs.Sound.{hold, Sound}
use Rattle.transform.specs.UpFrom.{up_from}
use Rattle.transform.specs.Generator.{GeneratorTable, is_generator_table}
use Rattle.transform.proofs.UpFrom.{up_tests}
use Rattle.transform.proofs.GeneratorLaws.{table_power, table_generator, table_places}
use Rattle.split_tables.specs.declared.Shape.{Shape}
use Rattle.split_tables.specs.Split.{shape_of, split_from, width, Twists, Rows, SplitTables, SplitTable}
use Rattle.split_tables.specs.Test.{is_twisted, is_level, is_third, are_squares, is_unity, twist_tests}
use Rattle.split_tables.specs.Test.{combined, weights, is_orbit, is_combined, row_tests, split_tests, is_split, base_of, has_split}
use Rattle.split_tables.proofs.TestLaws.{combined-length, orbit_next, combined_sum, first_power}

-- ---- tests put together
-- two numbers that are equal pass the test of it
same : {a b : ℕ} → a ≡ b → T (eqb a b)
same {a} {b} e = true_holds (eq-eqb a b e)

-- tests that all hold, one after the other
record Holding (ts : List Bool) : Type 0 where
  all_of : T (hold ts)

no_more : Holding []
no_more = record { all_of = tt }

first : {t : Bool} {ts : List Bool} → T t → Holding ts → Holding (t ∷ ts)
first {t} {ts} h rest = record { all_of = and_intro t (hold ts) h rest.all_of }

-- a test that is only asked where another holds
asking : (b x : Bool) → (b ≡ true → T x) → T (cond b x true)
asking true x f = f refl
asking false x f = tt

-- a test of all numbers below n
testing : (f : ℕ → Bool) (n : ℕ) → ((i : ℕ) → i < n → T (f i)) → T (all f (up_from 0 n))
testing f n h = up_tests f 0 n (λ i _ l. h i (omega arith))

-- ---- a table of powers passes its test
module _ (g q : ℕ) where
  next_power : (m : ℕ) {x : ℕ} → x ≡ g ^ m % q → x * g % q ≡ g ^ suc m % q
  next_power m e = ap (λ (y : ℕ). y * g % q) e ∙ mod-mul_left (g ^ m) g q ∙ ap (λ (y : ℕ). y % q) (sym (pow-suc g m))

  following : (t : List ℕ) (m x : ℕ) → x ≡ g ^ m % q → ((i : ℕ) → i < length t → get_or t i 0 ≡ g ^ (m + i) % q) → g ^ (m + length t) % q ≡ 1
      → T (follows g q x t)
  following [] m x e each round = same (e ∙ ap (λ (n : ℕ). g ^ n % q) (sym (add-zero m)) ∙ round)
  following (y ∷ ys) m x e each round =
      and_intro (eqb y x) (follows g q (x * g % q) ys)
      (same (each 0 (suc-le-suc zero-le) ∙ ap (λ (n : ℕ). g ^ n % q) (add-zero m) ∙ sym e))
      (following ys (suc m) (x * g % q) (next_power m e)
      (λ i l. each (suc i) (suc-le-suc l) ∙ ap (λ (n : ℕ). g ^ n % q) (add-suc m i ∙ sym (suc-add m i)))
      (ap (λ (n : ℕ). g ^ n % q) (suc-add m (length ys) ∙ sym (add-suc m (length ys))) ∙ round))

-- ---- the order
module _ {r n : ℕ} {t : List ℕ} (g : GeneratorTable r n t) where
  table_above : 1 < n
  table_above =
      ⊎_elim (λ (h : 1 < n). h)
      (λ (h : n ≤ 1). let none : get_or t 0 0 ≡ 0 = get_or-eq_default t 0 (omega (arith, g.size)) in absurd (omega (arith, g.first)))
      (lt_or_le 1 n)

  -- the number behind entry 0, which is 1
  behind_first : get_or t 0 0 * r % n ≡ r % n
  behind_first = ap (λ (x : ℕ). x * r % n) g.first ∙ ap (λ (x : ℕ). x % n) (one-mul r)

  -- number 1 of the table, or 1 where the table is 1 alone, is the generator modulo n
  entry_one : get_or t 1 1 ≡ r % n
  entry_one =
      ⊎_elim
      (λ (h : 1 < length t). get_or_default t 1 1 0 h ∙ g.next 0 h ∙ behind_first)
      (λ (h : length t ≤ 1).
      let two : n - 2 ≡ 0 = omega (arith, g.size) in
      get_or-eq_default t 1 h ∙ sym g.last ∙ ap (λ (i : ℕ). get_or t i 0 * r % n) two ∙ behind_first)
      (lt_or_le 1 (length t))

  -- the table is one of any generator that is the same modulo n
  table_again : {s : ℕ} → r % n ≡ s % n → GeneratorTable s n t
  table_again {s} e =
      record {
        size = g.size;
        first = g.first;
        next = λ i l. g.next i l ∙ times (get_or t i 0);
        last = sym (times (get_or t (n - 2) 0)) ∙ g.last;
        each = g.each;
      }
    where
      times : (a : ℕ) → a * r % n ≡ a * s % n
      times a =
          ap (λ (x : ℕ). x % n) (mul_comm a r) ∙ sym (mod-mul_left r a n) ∙ ap (λ (x : ℕ). x * a % n) e ∙ mod-mul_left s a n
          ∙ ap (λ (x : ℕ). x % n) (mul_comm s a)

  table_passes : T (is_generator_table r n t)
  table_passes =
      let others = all (λ (x : ℕ). not (eqb x 1)) (drop 1 t) in
      let some : 0 < length t = omega (arith, table_above, g.size) in
      and_intro (ltb 1 n) (eqb (length t) (n - 1) && (is_power_table r n t && others)) (lt→ltb 1 n table_above)
      (and_intro (eqb (length t) (n - 1)) (is_power_table r n t && others) (same g.size)
      (and_intro (is_power_table r n t) others
      (following r n t 0 1 (sym g.first ∙ table_power table_above g 0 some)
      (λ i l. table_power table_above g i l ∙ ap (λ (k : ℕ). r ^ k % n) (sym (zero-add i)))
      (ap (λ (k : ℕ). r ^ k % n) (zero-add (length t) ∙ g.size) ∙ (table_generator table_above g).round))
      (all_from (λ (x : ℕ). not (eqb x 1)) (drop 1 t) 0
      (λ k l. not_T (eqb (get_or (drop 1 t) k 0) 1)
      (λ h.
      (table_places table_above g).apart 0 (1 + k) (omega arith) (omega (arith, length-drop 1 t))
      (g.first ∙ sym (eqb→eq (get_or (drop 1 t) k 0) 1 h) ∙ get_or-drop 1 t k 0))))))

-- ---- the twists
-- K is below 32 in each shape
few_roots : (n : ℕ) → (shape_of n).k < 32
unfolding shape_of
few_roots n =
    let few = λ (s : Shape). s.k < 32 in
    cond_by few (eqb n 433) (λ _. omega arith)
    (λ _. cond_by few (eqb n 577) (λ _. omega arith) (λ _. cond_by few (eqb n 769) (λ _. omega arith) (λ _. omega arith)))

module _ {q k start : ℕ} {twists : List ℕ} (few : k < 32) (w : Twists q k start twists) where
  level_passes : (j : ℕ) → T (is_level q k twists (2 ^ j))
  level_passes j =
      let half = 2 ^ j in
      let nodes = k / (2 * half) in
      asking (eqb (nodes * (2 * half)) k) (all (is_twisted q k twists half) (up_from 0 k))
      (λ e. testing (is_twisted q k twists half) k
      (λ s l. same (w.halves nodes half s (eqb→eq (nodes * (2 * half)) k (true_holds e)) (record { exponent = j; is = refl }) l)))

  twists_pass : T (hold (twist_tests q k start twists))
  unfolding twist_tests
  twists_pass =
      let tests : Holding (twist_tests q k start twists) =
      first (lt→ltb k 32 few)
      (first (same w.size)
      (first w.below
      (first (testing (λ (j : ℕ). is_level q k twists (2 ^ j)) 4 (λ j _. level_passes j))
      (first
      (asking (eqb start 3) (all (is_third q k twists) (up_from 0 k))
      (λ e. testing (is_third q k twists) k (λ s l. same (w.thirds (eqb→eq start 3 (true_holds e)) s l))))
      (first (asking (eqb start 3) (are_squares q twists) (λ e. squares (eqb→eq start 3 (true_holds e))))
      (first (testing (is_unity q k twists) k (λ s l. same (w.unity s l))) no_more)))))) in
      tests.all_of
    where
      squares : start ≡ 3 → T (are_squares q twists)
      squares e =
          let one = get_or twists 1 0 in
          let two = get_or twists 2 0 in
          and_intro (eqb (one * one % q) two) (eqb (two * two % q) one) (same (w.squares e).0) (same (w.squares e).1)

-- ---- the rows
-- an orbit that has the powers of g in the generator's order passes
orbit_passes : (r q g : ℕ) (row : List ℕ) (b : ℕ) {x : ℕ} → x ≡ g ^ (r ^ b) % q
    → ((i : ℕ) → i < length row → get_or row i 0 % q ≡ g ^ (r ^ (b + i)) % q) → T (is_orbit r q x row)
unfolding is_orbit
orbit_passes r q g [] b e each = tt
orbit_passes r q g (y ∷ row) b {x} e each =
    and_intro (eqb (y % q) x) (is_orbit r q (x ^ r % q) row)
    (same (each 0 (suc-le-suc zero-le) ∙ ap (λ (m : ℕ). g ^ (r ^ m) % q) (add-zero b) ∙ sym e))
    (orbit_passes r q g row (suc b) (orbit_next r q g b e)
    (λ i l. each (suc i) (suc-le-suc l) ∙ ap (λ (m : ℕ). g ^ (r ^ m) % q) (add-suc b i ∙ sym (suc-add b i))))

module _ {p : Params} (sound : Sound p) {r k l : ℕ} {root : ℕ → ℕ} {rows : List ℕ} (w : Rows p r k l root rows) where
  -- the rows are those of any generator that is the same modulo N
  rows_again : {s : ℕ} → r % p.n ≡ s % p.n → Rows p s k l root rows
  rows_again {s} e =
      record {
        size = w.size;
        below = w.below;
        rule = λ i x h g. w.rule i x h g ∙ power (i * l + x);
      }
    where
      power : (m : ℕ) → p.g ^ (r ^ m) % p.q ≡ p.g ^ (s ^ m) % p.q
      power m =
          sym (first_power sound r m)
          ∙ ap (λ (x : ℕ). p.g ^ x % p.q) (sym (pow_of_mod r p.n m) ∙ ap (λ (x : ℕ). x ^ m % p.n) e ∙ pow_of_mod s p.n m)
          ∙ first_power sound s m

  rows_pass : T (hold (row_tests p r k l root rows))
  unfolding row_tests
  rows_pass =
      let tests : Holding (row_tests p r k l root rows) =
      first (same w.size)
      (first w.below
      (first
      (testing (is_combined p r k l root rows) k
      (λ e h.
      let row = combined (width l) (weights p.q root k e) rows in
      orbit_passes r p.q p.g row (e * l) (first_power sound r (e * l))
      (λ x b.
      let inside : x < width l = omega (arith, combined-length (width l) (weights p.q root k e) rows) in
      sym (combined_sum (omega (arith, sound.modulus)) k l root rows e x inside) ∙ w.rule e x h inside)))
      no_more)) in
      tests.all_of

-- ---- the whole table
-- the test's generator is, modulo N, each whose powers the table has in front
as_base : (p : Params) (t : List ℕ) {r : ℕ} → GeneratorTable r p.n (take (p.n - 1) t) → r % p.n ≡ base_of p t % p.n
as_base p t {r} g =
    let one = entry_one g in
    let base : base_of p t ≡ r % p.n = omega arith in
    sym (mod-mod r p.n) ∙ ap (λ (x : ℕ). x % p.n) (sym base)

module _ (p : Params) (sound : Sound p) (base : ℕ) (order table : List ℕ) (size : length table ≡ 2 * (p.n - 1)) where
  tables_pass : (s : SplitTables p order (take (shape_of p.n).k table) (drop (shape_of p.n).k table)) → s.base % p.n ≡ base % p.n → T (is_split p base table)
  unfolding split_tests
  tables_pass s is =
      let tests : Holding (split_tests p base table) =
      first (le→leb split_from p.q s.from)
      (first (same s.shape)
      (first (same size)
      (first (twists_pass (few_roots p.n) s.twisted)
      (first (rows_pass sound (rows_again sound s.rowed is)) no_more)))) in
      tests.all_of

pub split_passes : (p : Params) → Sound p → (t : List ℕ) → SplitTable p t → has_split p t ≡ true
unfolding has_split
split_passes p sound t s =
    let k = (shape_of p.n).k in
    let order = take (p.n - 1) t in
    let table = drop (p.n - 1) t in
    let base = base_of p t in
    let rest = cond (ltb p.q split_from) (eqb (length table) (2 * (p.n - 1))) (is_split p base table) in
    let size : length table ≡ 2 * (p.n - 1) = omega (arith, length-drop (p.n - 1) t, s.size) in
    holds_true (is_generator_table base p.n order && rest)
    (and_intro (is_generator_table base p.n order) rest (table_passes (table_again s.ordered.table (as_base p t s.ordered.table)))
    (cond_by T (ltb p.q split_from) (λ _. same size)
    (λ e.
    let whole = s.parts (ltb-false p.q split_from e) in
    let parts = subst (λ (rows : List ℕ). SplitTables p order (take k table) rows) (sym (drop-drop k (p.n - 1) t)) whole in
    tables_pass p sound base order table size parts (as_base p t parts.generator))))
