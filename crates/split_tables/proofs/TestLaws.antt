-- Tables that pass the tests are a split's tables.
-- Assumes nothing.
use mathlib.Core.Path.{◌≡◌, refl, sym, ap, ap₂, subst, ◌∙◌}
use mathlib.Core.Bool.{Bool, true, false, cond}
use mathlib.Core.List.{List, [], ◌∷◌}
use mathlib.Core.Logic.{⊎_elim}
use Prim.Native.Nat.{ℕ, zero, suc, ◌+◌, ◌*◌, ◌/◌, ◌^◌, ◌%◌, ◌<◌, ◌≤◌, zero-le}
use native.Mathlib.Nat.{add-zero, add-suc, suc-add, zero-mul, suc-mul, mul-zero, pow-suc, mod-mod, mod-eq_of_lt}
use native.Mathlib.Nat.{div-eq_of_eq-mul_left, le_of_suc-le-suc, not-suc-le-zero}
use native.Mathlib.Omega.{arith}
use borrow.Author.Tests.{eq-eqb}
use lib.Dec.{T, eqb, ltb, ltb→lt, eqb→eq}
use lib.Pow.{pow_mono, pow_pos}
use lib.IntN.{ℤ, pos, ◌+ℤ◌, ◌*ℤ◌}
use lib.ListN.{length, get_or, drop, length-replicate, get_or-replicate}
use lib.Seq.{get_or-drop}
use Rattle.algebra.specs.All.{all}
use Rattle.algebra.specs.Integer.{residue, sum}
use Rattle.algebra.proofs.Congruence.{cong_refl, cong-mul, residue-eq, eq-residue}
use Rattle.algebra.proofs.Remainder.{pow-pow, pow_of_mod, pow_round}
use Rattle.algebra.proofs.Sum.{sum-cong, sum_same, sum_front}
use Rattle.algebra.proofs.Test.{and_left, and_right, true_holds, lt_or_le}
use Rattle.parameters.specs.declared.Params.{Params}
use Rattle.parameters.specs.Sound.{hold, Sound}
use Rattle.parameters.proofs.Sound.{of_all}
use Rattle.transform.specs.UpFrom.{up_from}
use Rattle.transform.proofs.UpFrom.{up_test, up_map-length, from_zero_at}
use Rattle.split_tables.specs.Split.{PowerOfTwo, Twists, Rows, twist_at, root_at, third_at, width, row_at}
use Rattle.split_tables.specs.Test.{is_twisted, is_level, is_third, are_squares, is_unity, twist_tests}
use Rattle.split_tables.specs.Test.{plus_times, combined, weights, is_orbit, is_combined, row_tests}

-- of tests that all hold, each
pub each : (ts : List Bool) → T (hold ts) → (i : ℕ) → T (ltb i (length ts)) → T (get_or ts i true)
each ts t i h = of_all ts t i (ltb→lt i (length ts) h)

-- a test that is only asked where another holds
where_asked : (b x : Bool) → T (cond b x true) → b ≡ true → T x
where_asked true x t e = t
where_asked false x t e = absurd (true_holds e)

-- a test of all numbers below n
below_test : (f : ℕ → Bool) (n : ℕ) → T (all f (up_from 0 n)) → (i : ℕ) → i < n → T (f i)
below_test f n t i h = up_test f 0 n t i zero-le (omega arith)

-- ---- the twists
module _ (q k start : ℕ) (twists : List ℕ) (t : T (hold (twist_tests q k start twists))) where
  -- half a node has 1, 2, 4 or 8 roots
  exponent_below : (nodes j : ℕ) → nodes * (2 * 2 ^ j) ≡ k → 0 < k → j < 4
  unfolding twist_tests
  exponent_below zero j e some = absurd (omega (arith, zero-mul (2 * 2 ^ j)))
  exponent_below (suc m) j e some =
      let small = ltb→lt k 32 (each (twist_tests q k start twists) t 0 tt) in
      ⊎_elim (λ (h : j < 4). h) (λ (h : 4 ≤ j). absurd (omega (arith, suc-mul m (2 * 2 ^ j), pow_mono h))) (lt_or_le j 4)

  level : (nodes j s : ℕ) → nodes * (2 * 2 ^ j) ≡ k → s < k → root_at q twists k s ^ (2 ^ j) % q ≡ twist_at q twists nodes (2 ^ j) s % q
  unfolding twist_tests
  level nodes j s e h =
      let below = exponent_below nodes j e (omega arith) in
      let test = below_test (λ (j : ℕ). is_level q k twists (2 ^ j)) 4 (each (twist_tests q k start twists) t 3 tt) j below in
      let count : k / (2 * 2 ^ j) ≡ nodes = div-eq_of_eq-mul_left (omega (arith, pow_pos j)) (sym e) in
      let whole : k / (2 * 2 ^ j) * (2 * 2 ^ j) ≡ k = ap (λ (x : ℕ). x * (2 * 2 ^ j)) count ∙ e in
      let asked = where_asked (eqb (k / (2 * 2 ^ j) * (2 * 2 ^ j)) k) (all (is_twisted q k twists (2 ^ j)) (up_from 0 k)) test
      (eq-eqb (k / (2 * 2 ^ j) * (2 * 2 ^ j)) k whole) in
      eqb→eq (root_at q twists k s ^ (2 ^ j) % q) (twist_at q twists (k / (2 * 2 ^ j)) (2 ^ j) s % q) (below_test (is_twisted q k twists (2 ^ j)) k asked s h)
      ∙ ap (λ (x : ℕ). twist_at q twists x (2 ^ j) s % q) count

  halves : (nodes half s : ℕ) → nodes * (2 * half) ≡ k → PowerOfTwo half → s < k → root_at q twists k s ^ half % q ≡ twist_at q twists nodes half s % q
  halves nodes half s e p h =
      subst (λ (x : ℕ). nodes * (2 * x) ≡ k → root_at q twists k s ^ x % q ≡ twist_at q twists nodes x s % q) (sym p.is)
      (λ f. level nodes p.exponent s f h) e

  thirds : start ≡ 3 → (s : ℕ) → s < k → root_at q twists k s ^ (k / 3) % q ≡ third_at twists k s % q
  unfolding twist_tests
  thirds e s h =
      let asked = where_asked (eqb start 3) (all (is_third q k twists) (up_from 0 k)) (each (twist_tests q k start twists) t 4 tt) (eq-eqb start 3 e) in
      eqb→eq (root_at q twists k s ^ (k / 3) % q) (third_at twists k s % q) (below_test (is_third q k twists) k asked s h)

  squares : start ≡ 3 → (get_or twists 1 0 * get_or twists 1 0 % q ≡ get_or twists 2 0) × (get_or twists 2 0 * get_or twists 2 0 % q ≡ get_or twists 1 0)
  unfolding twist_tests
  squares e =
      let one = get_or twists 1 0 in
      let two = get_or twists 2 0 in
      let asked = where_asked (eqb start 3) (are_squares q twists) (each (twist_tests q k start twists) t 5 tt) (eq-eqb start 3 e) in (
        eqb→eq (one * one % q) two (and_left (eqb (one * one % q) two) (eqb (two * two % q) one) asked),
        eqb→eq (two * two % q) one (and_right (eqb (one * one % q) two) (eqb (two * two % q) one) asked),
      )

  pub twists_of_test : Twists q k start twists
  unfolding twist_tests
  twists_of_test =
      record {
        size = eqb→eq (length twists) k (each (twist_tests q k start twists) t 1 tt);
        below = each (twist_tests q k start twists) t 2 tt;
        halves = halves;
        thirds = thirds;
        squares = squares;
        unity = λ s h. eqb→eq (root_at q twists k s ^ k % q) 1 (below_test (is_unity q k twists) k (each (twist_tests q k start twists) t 6 tt) s h);
      }

-- ---- rows combined
plus_times_at : (c : ℕ) (t y : List ℕ) (x : ℕ) → x < length y → get_or (plus_times c t y) x 0 ≡ c * get_or t x 0 + get_or y x 0
unfolding plus_times
plus_times_at c t [] x h = absurd (not-suc-le-zero h)
plus_times_at c [] (b ∷ y) x h = omega (arith, mul-zero c)
plus_times_at c (a ∷ t) (b ∷ y) zero h = refl
plus_times_at c (a ∷ t) (b ∷ y) (suc x) h = plus_times_at c t y x (le_of_suc-le-suc h)

plus_times-length : (c : ℕ) (t y : List ℕ) → length (plus_times c t y) ≡ length y
unfolding plus_times
plus_times-length c t [] = refl
plus_times-length c [] (b ∷ y) = refl
plus_times-length c (a ∷ t) (b ∷ y) = ap suc (plus_times-length c t y)

module _ (w : ℕ) where
  pub combined-length : (cs t : List ℕ) → length (combined w cs t) ≡ w
  unfolding combined
  combined-length [] t = length-replicate w 0
  combined-length (c ∷ cs) t = plus_times-length c t (combined w cs (drop w t)) ∙ combined-length cs (drop w t)

  -- number x of row s, times its weight
  abbrev row_term : List ℕ → List ℕ → ℕ → ℕ → ℤ
  row_term cs t x s = pos (get_or cs s 0) *ℤ pos (get_or t (s * w + x) 0)

  combined_at : (cs t : List ℕ) (x : ℕ) → x < w → pos (get_or (combined w cs t) x 0) ≡ sum (row_term cs t x) (length cs)
  unfolding combined
  combined_at [] t x h = ap pos (get_or-replicate w x 0 0 h)
  combined_at (c ∷ cs) t x h =
      let rest = combined w cs (drop w t) in
      let first : x ≡ 0 * w + x = omega (arith, zero-mul w) in
      ap pos (plus_times_at c t rest x (omega (arith, combined-length cs (drop w t))))
      ∙ ap₂ ◌+ℤ◌ (ap (λ (m : ℕ). pos (c * get_or t m 0)) first)
      (combined_at cs (drop w t) x h
      ∙ sum_same (row_term cs (drop w t) x) (λ (s : ℕ). row_term (c ∷ cs) t x (suc s)) (length cs)
      (λ s g.
      let next : w + (s * w + x) ≡ suc s * w + x = omega (arith, suc-mul s w) in
      ap (λ (m : ℕ). pos (get_or cs s 0) *ℤ pos m) (get_or-drop w t (s * w + x) 0 ∙ ap (λ (m : ℕ). get_or t m 0) next)))
      ∙ sym (sum_front (row_term (c ∷ cs) t x) (length cs))

-- ---- an orbit has the powers of g in the generator's order
pub orbit_next : (r q g b : ℕ) {x : ℕ} → x ≡ g ^ (r ^ b) % q → x ^ r % q ≡ g ^ (r ^ suc b) % q
orbit_next r q g b e =
    ap (λ (m : ℕ). m ^ r % q) e
    ∙ pow_of_mod (g ^ (r ^ b)) q r
    ∙ ap (λ (m : ℕ). m % q) (pow-pow g (r ^ b) r ∙ ap (λ (m : ℕ). g ^ m) (sym (pow-suc r b)))

orbit_at : (r q g : ℕ) (row : List ℕ) (b : ℕ) {x : ℕ} → x ≡ g ^ (r ^ b) % q → T (is_orbit r q x row) → (i : ℕ) → i < length row
    → get_or row i 0 % q ≡ g ^ (r ^ (b + i)) % q
unfolding is_orbit
orbit_at r q g [] b e t i h = absurd (not-suc-le-zero h)
orbit_at r q g (y ∷ row) b {x} e t zero h =
    eqb→eq (y % q) x (and_left (eqb (y % q) x) (is_orbit r q (x ^ r % q) row) t) ∙ e ∙ ap (λ (m : ℕ). g ^ (r ^ m) % q) (sym (add-zero b))
orbit_at r q g (y ∷ row) b {x} e t (suc i) h =
    orbit_at r q g row (suc b) (orbit_next r q g b e) (and_right (eqb (y % q) x) (is_orbit r q (x ^ r % q) row) t) i (le_of_suc-le-suc h)
    ∙ ap (λ (m : ℕ). g ^ (r ^ m) % q) (suc-add b i ∙ sym (add-suc b i))

-- ---- the rows
module _ {q : ℕ} (positive : 0 < q) (k l : ℕ) (root : ℕ → ℕ) (rows : List ℕ) where
  -- number x of the rows combined with powers e of the roots is, modulo q, the sum of the rule
  pub combined_sum : (e x : ℕ) → x < width l
      → residue (sum (λ (s : ℕ). pos (root s ^ e) *ℤ pos (row_at l rows s x)) k) q ≡ get_or (combined (width l) (weights q root k e) rows) x 0 % q
  combined_sum e x g =
      let cs = weights q root k e in
      residue-eq positive
      (sum-cong (λ (s : ℕ). pos (root s ^ e) *ℤ pos (row_at l rows s x)) (row_term (width l) cs rows x) k
      (λ s i.
      cong-mul
      (eq-residue positive {a = pos (root s ^ e)} {b = pos (get_or cs s 0)}
      (sym (ap (λ (m : ℕ). m % q) (from_zero_at (λ (s : ℕ). root s ^ e % q) k s 0 i) ∙ mod-mod (root s ^ e) q)))
      (cong_refl (pos (row_at l rows s x)))))
      ∙ ap (λ (m : ℕ). residue (sum (row_term (width l) cs rows x) m) q) (sym (up_map-length (λ (s : ℕ). root s ^ e % q) 0 k))
      ∙ ap (λ (z : ℤ). residue z q) (sym (combined_at (width l) cs rows x g))

-- g to the r to the m, by r to the m modulo N
pub first_power : {p : Params} → Sound p → (r m : ℕ) → p.g ^ (r ^ m % p.n) % p.q ≡ p.g ^ (r ^ m) % p.q
first_power {p} sound r m = pow_round p.g p.q p.n (sound.cyclic ∙ sym (mod-eq_of_lt sound.modulus)) (r ^ m)

module _ (p : Params) (sound : Sound p) (base k l : ℕ) (root : ℕ → ℕ) (rows : List ℕ) (t : T (hold (row_tests p base k l root rows))) where
  rule : (e x : ℕ) → e < k → x < width l
      → residue (sum (λ (s : ℕ). pos (root s ^ e) *ℤ pos (row_at l rows s x)) k) p.q ≡ p.g ^ (base ^ (e * l + x)) % p.q
  unfolding row_tests
  rule e x h g =
      let cs = weights p.q root k e in
      let orbit = below_test (is_combined p base k l root rows) k (each (row_tests p base k l root rows) t 2 tt) e h in
      combined_sum (omega (arith, sound.modulus)) k l root rows e x g
      ∙ orbit_at base p.q p.g (combined (width l) cs rows) (e * l) (first_power sound base (e * l)) orbit x (omega (arith, combined-length (width l) cs rows))

  pub rows_of_test : Rows p base k l root rows
  unfolding row_tests
  rows_of_test =
      record {
        size = eqb→eq (length rows) (k * width l) (each (row_tests p base k l root rows) t 0 tt);
        below = each (row_tests p base k l root rows) t 1 tt;
        rule = rule;
      }
