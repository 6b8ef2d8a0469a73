-- The powers of a generator modulo n, and the table of them: what the test of a table gives, and what a table gives back.
-- Assumes nothing.
use mathlib.Core.Path.{◌≡◌, refl, sym, ap, ◌∙◌}
use mathlib.Core.Logic.{◌≢◌}
use mathlib.Core.Bool.{◌&&◌, not}
use mathlib.Core.List.{List}
use Prim.Native.Nat.{ℕ, zero, suc, ◌+◌, ◌-◌, ◌*◌, ◌^◌, ◌%◌, ◌<◌, ◌≤◌}
use native.Mathlib.Nat.{mod-lt, mod-eq_of_lt, mul_comm, one-mul, zero-mul, zero-mod, pow-suc, pow-zero}
use native.Mathlib.Numerals.{add-one}
use native.Mathlib.Omega.{arith}
use lib.Dec.{T, eqb, ltb, ltb→lt, lt→ltb, eqb→eq, T_not}
use lib.ListN.{length, get_or, drop, length-drop}
use lib.Seq.{get_or-drop}
use lib.Pow.{pow-add}
use Rattle.algebra.specs.All.{all, are_below}
use Rattle.algebra.specs.Powers.{Powers, is_power_table}
use Rattle.algebra.proofs.All.{all_at, all_from}
use Rattle.algebra.proofs.Powers.{powers_of_test}
use Rattle.algebra.proofs.Remainder.{mod-mul_left}
use Rattle.algebra.proofs.Test.{and_left, and_right}
use Rattle.transform.specs.Generator.{Taken, Generator, GeneratorTable, is_generator_table}
use Rattle.transform.specs.Asks.{Places}
use Rattle.transform.proofs.Permutation.{apart_takes_each, taken_apart}

-- powers, multiplied modulo n
pub pow-mul-mod : (r i m n : ℕ) → (r ^ i % n) * (r ^ m % n) % n ≡ r ^ (i + m) % n
pow-mul-mod r i m n =
    mod-mul_left (r ^ i) (r ^ m % n) n
    ∙ ap (λ (x : ℕ). x % n) (mul_comm (r ^ i) (r ^ m % n))
    ∙ mod-mul_left (r ^ m) (r ^ i) n
    ∙ ap (λ (x : ℕ). x % n) (mul_comm (r ^ m) (r ^ i) ∙ sym (pow-add r i m))

pow_next : (r i n : ℕ) → r ^ i % n * r % n ≡ r ^ (i + 1) % n
pow_next r i n = mod-mul_left (r ^ i) r n ∙ ap (λ (x : ℕ). x % n) (sym (pow-suc r i) ∙ ap (λ (k : ℕ). r ^ k) (sym (add-one i)))

pow_last : (r : ℕ) {n : ℕ} → 1 < n → r ^ (n - 2) % n * r % n ≡ r ^ (n - 1) % n
pow_last r {n} h = let e : n - 2 + 1 ≡ n - 1 = omega arith in pow_next r (n - 2) n ∙ ap (λ (k : ℕ). r ^ k % n) e

-- ---- where power n - 1 is 1
module _ (r : ℕ) {n : ℕ} (modulus : 1 < n) (round : r ^ (n - 1) % n ≡ 1) where
  -- r to the i times r to the rest is 1
  with_rest : (i : ℕ) → i ≤ n - 1 → (r ^ i % n) * (r ^ (n - 1 - i) % n) % n ≡ 1
  with_rest i l =
      let e : i + (n - 1 - i) ≡ n - 1 = omega arith in
      pow-mul-mod r i (n - 1 - i) n ∙ ap (λ (k : ℕ). r ^ k % n) e ∙ round

  pub power_positive : (i : ℕ) → i ≤ n - 1 → 0 < r ^ i % n
  power_positive i l = positive (r ^ i % n) refl
    where
      positive : (x : ℕ) → r ^ i % n ≡ x → 0 < r ^ i % n
      positive zero e =
          let one = with_rest i l in
          let none = ap (λ (x : ℕ). x * (r ^ (n - 1 - i) % n) % n) e ∙ ap (λ (x : ℕ). x % n) (zero-mul (r ^ (n - 1 - i) % n)) ∙ zero-mod n in
          absurd (omega arith)
      positive (suc x) e = omega arith

  -- a power as a place, counted from 0
  pub place_below : (i : ℕ) → i < n - 1 → r ^ i % n - 1 < n - 1
  place_below i l = let some : 0 < n = omega arith in omega (arith, power_positive i (omega arith), mod-lt (r ^ i) some)

  -- where two powers agree, the power of the difference is 1
  difference : (i k : ℕ) → i < k → k ≤ n - 1 → r ^ i % n ≡ r ^ k % n → r ^ (k - i) % n ≡ 1
  difference i k h l e =
      let rest = n - 1 - i in
      let a : n - 1 + (k - i) ≡ k + rest = omega arith in
      sym
      (ap (λ (x : ℕ). x % n) (pow-add r (n - 1) (k - i))
      ∙ sym (mod-mul_left (r ^ (n - 1)) (r ^ (k - i)) n)
      ∙ ap (λ (x : ℕ). x * r ^ (k - i) % n) round
      ∙ ap (λ (x : ℕ). x % n) (one-mul (r ^ (k - i))))
      ∙ ap (λ (x : ℕ). r ^ x % n) a
      ∙ sym (pow-mul-mod r k rest n)
      ∙ ap (λ (x : ℕ). x * (r ^ rest % n) % n) (sym e)
      ∙ with_rest i (omega arith)

  -- where no power between is 1, each nonzero residue is a power
  pub generator_by_order : ((d : ℕ) → 0 < d → d < n - 1 → r ^ d % n ≢ 1) → Generator r n
  generator_by_order order = record { each = each; round = round }
    where
      apart : (i k : ℕ) → i < k → k < n - 1 → r ^ i % n - 1 ≢ r ^ k % n - 1
      apart i k h l e =
          order (k - i) (omega arith) (omega arith)
          (difference i k h (omega arith) (omega (arith, power_positive i (omega arith), power_positive k (omega arith))))

      each : (j : ℕ) → 0 < j → j < n → Taken (λ (i : ℕ). r ^ i % n) (n - 1) j
      each j h l =
          let t = apart_takes_each (λ (i : ℕ). r ^ i % n - 1) (n - 1) place_below apart (j - 1) (omega arith) in
          record { place = t.place; below = t.below; is = omega (arith, t.is, power_positive t.place (omega (arith, t.below))) }

module _ {r n : ℕ} (modulus : 1 < n) (gen : Generator r n) where
  -- each place is taken
  pub each_place : (j : ℕ) → j < n - 1 → Taken (λ (i : ℕ). r ^ i % n - 1) (n - 1) j
  each_place j l =
      let t = gen.each (suc j) (omega arith) (omega arith) in
      record { place = t.place; below = t.below; is = omega (arith, t.is) }

  pub powers_apart : (i k : ℕ) → i < k → k < n - 1 → r ^ i % n ≢ r ^ k % n
  powers_apart i k h l e =
      taken_apart (λ (i : ℕ). r ^ i % n - 1) (n - 1) (place_below r modulus gen.round) each_place i k h l (ap (λ (x : ℕ). x - 1) e)

  -- no power between is 1
  pub order_full : (d : ℕ) → 0 < d → d < n - 1 → r ^ d % n ≢ 1
  order_full d h l e = powers_apart 0 d h l (ap (λ (x : ℕ). x % n) (pow-zero r) ∙ mod-eq_of_lt modulus ∙ sym e)

-- ---- a table that passes the test
module _ (r n : ℕ) (t : List ℕ) where
  table_of_powers : 1 < n → length t ≡ n - 1 → Powers r n t → Generator r n → GeneratorTable r n t
  table_of_powers modulus size powers gen =
      record {
        size = size;
        first = powers.each 0 (omega arith) ∙ ap (λ (x : ℕ). x % n) (pow-zero r) ∙ mod-eq_of_lt modulus;
        next = λ i l. powers.each (i + 1) l ∙ sym (pow_next r i n) ∙ ap (λ (x : ℕ). x * r % n) (sym (powers.each i (omega arith)));
        last = ap (λ (x : ℕ). x * r % n) (powers.each (n - 2) (omega arith)) ∙ pow_last r modulus ∙ gen.round;
        each = λ j h l.
            let p = gen.each j h l in
            record { place = p.place; below = omega (arith, p.below); is = powers.each p.place (omega (arith, p.below)) ∙ p.is };
      }

  pub generator_table : T (is_generator_table r n t) → GeneratorTable r n t
  generator_table c =
      let others = all (λ (x : ℕ). not (eqb x 1)) (drop 1 t) in
      let c1 = and_right (ltb 1 n) (eqb (length t) (n - 1) && (is_power_table r n t && others)) c in
      let c2 = and_right (eqb (length t) (n - 1)) (is_power_table r n t && others) c1 in
      let modulus = ltb→lt 1 n (and_left (ltb 1 n) (eqb (length t) (n - 1) && (is_power_table r n t && others)) c) in
      let size = eqb→eq (length t) (n - 1) (and_left (eqb (length t) (n - 1)) (is_power_table r n t && others) c1) in
      let powers = powers_of_test r n modulus t (and_left (is_power_table r n t) others c2) in
      let other = all_at (λ (x : ℕ). not (eqb x 1)) (drop 1 t) 0 (and_right (is_power_table r n t) others c2) in
      let gen = generator_by_order r modulus (ap (λ (k : ℕ). r ^ k % n) (sym size) ∙ powers.cyclic)
      (λ d h l e. not_one d h (omega arith) other (powers.each d (omega arith) ∙ e)) in
      table_of_powers modulus size powers gen
    where
      not_one : (d : ℕ) → 0 < d → d < length t → ((k : ℕ) → k < length (drop 1 t) → T (not (eqb (get_or (drop 1 t) k 0) 1))) → get_or t d 0 ≢ 1
      not_one d h l other e =
          let a : 1 + (d - 1) ≡ d = omega arith in
          let at : get_or (drop 1 t) (d - 1) 0 ≡ 1 = get_or-drop 1 t (d - 1) 0 ∙ ap (λ (k : ℕ). get_or t k 0) a ∙ e in
          T_not (eqb (get_or (drop 1 t) (d - 1) 0) 1) (other (d - 1) (omega (arith, length-drop 1 t))) (rw at tt)

-- ---- what a table gives
module _ {r n : ℕ} {t : List ℕ} (modulus : 1 < n) (g : GeneratorTable r n t) where
  -- entry i is r to the i
  pub table_power : (i : ℕ) → i < length t → get_or t i 0 ≡ r ^ i % n
  table_power zero l = g.first ∙ sym (ap (λ (x : ℕ). x % n) (pow-zero r) ∙ mod-eq_of_lt modulus)
  table_power (suc i) l =
      let e : i + 1 ≡ suc i = omega arith in
      ap (λ (k : ℕ). get_or t k 0) (sym e)
      ∙ g.next i (omega arith)
      ∙ ap (λ (x : ℕ). x * r % n) (table_power i (omega arith))
      ∙ pow_next r i n
      ∙ ap (λ (k : ℕ). r ^ k % n) e

  pub table_generator : Generator r n
  table_generator =
      record {
        each = λ j h l.
            let p = g.each j h l in
            record { place = p.place; below = omega (arith, p.below, g.size); is = sym (table_power p.place p.below) ∙ p.is };
        round = sym (pow_last r modulus) ∙ ap (λ (x : ℕ). x * r % n) (sym (table_power (n - 2) (omega (arith, g.size)))) ∙ g.last;
      }

  pub table_places : Places (n - 1) t
  table_places =
      let round = table_generator.round in
      let some : 0 < n = omega arith in
      record {
        positive = λ i l. omega (arith, table_power i l, power_positive r modulus round i (omega (arith, g.size)));
        within = λ i l. omega (arith, table_power i l, mod-lt (r ^ i) some);
        apart = λ i k h l e.
            powers_apart modulus table_generator i k h (omega (arith, g.size)) (sym (table_power i (omega arith)) ∙ e ∙ table_power k l);
      }

  pub table_below : (m : ℕ) → n ≤ m → T (are_below m t)
  table_below m h = all_from (λ (x : ℕ). ltb x m) t 0 (λ i l. lt→ltb (get_or t i 0) m (omega (arith, table_places.within i l)))
