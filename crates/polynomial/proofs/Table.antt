-- The evaluator's loop, one turn at a time: it sums coefficients times powers read from the table, which modulo q is the definition's sum.
-- Assumes nothing.
use mathlib.Core.Path.{◌≡◌, refl, sym, ap, ◌∙◌}
use mathlib.Core.List.{List}
use Prim.Native.Nat.{ℕ, ◌+◌, ◌*◌, ◌%◌, ◌^◌, ◌<◌, ◌≤◌}
use native.Mathlib.Nat.{one-mul, add-mul, add-mod, mod-lt, mod-mod, mod-eq_of_lt}
use native.Mathlib.Numerals.{add-one}
use native.Mathlib.Omega.{arith}
use lib.IntN.{ℤ, pos, ◌+ℤ◌, nat_abs, +ℤ_assoc}
use lib.ListN.{length, get_or}
use Rattle.algebra.specs.Integer.{residue, sum}
use Rattle.algebra.proofs.Absolute.{abs-add}
use Rattle.algebra.proofs.Congruence.{Cong, cong_refl, cong-mul, residue-eq, eq-residue}
use Rattle.algebra.proofs.Remainder.{pow_round}
use Rattle.algebra.proofs.Sum.{sum-cong}
use Rattle.parameters.specs.declared.Params.{Params}
use Rattle.parameters.specs.Sound.{Sound}
use Rattle.polynomial.specs.Evaluation.{term, evaluation_residue}
use Rattle.polynomial.specs.Polynomial.{coefficient}
use Rattle.polynomial.specs.Asks.{product_at, four_products, read_term, Summed}

-- ---- the place in the table, i × j modulo its length
pub place_once : (j n : ℕ) → j < n → j ≡ 1 * j % n
place_once j n h = rw (one-mul, mod-eq_of_lt h)

-- m places on from the place of i
pub place_next : (i m j n : ℕ) {k d r : ℕ} → k ≡ i * j % n → d ≡ m * j % n → r ≡ (k + d) % n → r ≡ (i + m) * j % n
place_next i m j n e f g = g ∙ rw (e, f, add-mul i m j, ← add-mod (i * j) (m * j) n)

-- ---- the sum
pub sum_next : (n : ℕ) (t : List ℕ) (f : List ℤ) (j i : ℕ) {i' k : ℕ} {acc : ℤ} → i' ≡ i + 1 → k ≡ i * j % n → acc ≡ sum (read_term n t f j) i
    → acc +ℤ product_at t f k i ≡ sum (read_term n t f j) i'
sum_next n t f j i h g e = rw (h, add-one, g, ← e)

-- four products more, where j2 and j3 are two and three times j
pub sum_four : (n : ℕ) (t : List ℕ) (f : List ℤ) (j i : ℕ) {k j2 j3 : ℕ} {acc : ℤ} → k ≡ i * j % n → j ≡ 1 * j % n → j2 ≡ 2 * j % n → j3 ≡ 3 * j % n
    → acc ≡ sum (read_term n t f j) i → acc +ℤ four_products t f n k i j j2 j3 ≡ sum (read_term n t f j) (i + 4)
sum_four n t f j i {k} {j2} {j3} {acc} g g1 g2 g3 e =
    let read = product_at t f in
    let apart = parts acc (read k i) (read ((k + j) % n) (i + 1)) (read ((k + j2) % n) (i + 2)) (read ((k + j3) % n) (i + 3)) in
    apart
    ∙ sum_next n t f j (i + 3) {i' = i + 4} (omega arith) (place_next i 3 j n g g3 refl)
    (sum_next n t f j (i + 2) {i' = i + 3} (omega arith) (place_next i 2 j n g g2 refl)
    (sum_next n t f j (i + 1) {i' = i + 2} (omega arith) (place_next i 1 j n g g1 refl) (sum_next n t f j i refl g e)))
  where
    parts : (a b c d e : ℤ) → a +ℤ (b +ℤ c +ℤ d +ℤ e) ≡ a +ℤ b +ℤ c +ℤ d +ℤ e
    parts a b c d e = simp +ℤ_assoc

-- ---- a turn of the loops, of one product or of four
module _ {n : ℕ} {t : List ℕ} {f : List ℤ} {j : ℕ} {acc : ℤ} {k i : ℕ} (s : Summed n t f j acc k i) (inside : j < n) where
  pub summed_one : {next : ℤ} {place : ℕ} → i < n → nat_abs (product_at t f k i) ≤ 2 ^ 47 → next ≡ acc +ℤ product_at t f k i → place ≡ (k + j) % n
      → Summed n t f j next place (i + 1)
  summed_one more small e r = record {
    below = omega arith;
    inside = rw r (mod-lt (k + j) (omega arith));
    place = place_next i 1 j n s.place (place_once j n inside) r;
    room = rw e (omega (arith, abs-add acc (product_at t f k i), s.room, small));
    value = e ∙ sum_next n t f j i refl s.place s.value;
  }

  pub summed_four : {j2 j3 j4 place : ℕ} {next : ℤ} → i + 4 ≤ n → j2 ≡ (j + j) % n → j3 ≡ (j2 + j) % n → j4 ≡ (j3 + j) % n
      → nat_abs (four_products t f n k i j j2 j3) ≤ 4 * 2 ^ 47 → next ≡ acc +ℤ four_products t f n k i j j2 j3 → place ≡ (k + j4) % n
      → Summed n t f j next place (i + 4)
  summed_four {j2} {j3} more e2 e3 e4 small e r =
      let once = place_once j n inside in
      let twice = place_next 1 1 j n once once e2 in
      let thrice = place_next 2 1 j n twice once e3 in
      let fourfold = place_next 3 1 j n thrice once e4 in
      record {
        below = more;
        inside = rw r (mod-lt _ (omega arith));
        place = place_next i 4 j n s.place fourfold r;
        room = rw e (omega (arith, abs-add acc (four_products t f n k i j j2 j3), s.room, small));
        value = e ∙ sum_four n t f j i s.place once twice thrice s.value;
      }

-- ---- the sum is the evaluation's
module _ {p : Params} (sound : Sound p) where
  positive : 0 < p.q
  positive = omega (arith, sound.modulus)

  module _ (t : List ℕ) (table : (i : ℕ) → i < p.n → get_or t i 0 ≡ p.g ^ i % p.q) where
    power_read : (m : ℕ) → 0 < p.n → Cong p.q (pos (get_or t (m % p.n) 0)) (pos (p.g ^ m))
    power_read m h =
        eq-residue positive {a = pos (get_or t (m % p.n) 0)} {b = pos (p.g ^ m)}
        (ap (λ (x : ℕ). x % p.q) (table (m % p.n) (mod-lt m h))
        ∙ mod-mod (p.g ^ (m % p.n)) p.q
        ∙ pow_round p.g p.q p.n (sound.cyclic ∙ sym (mod-eq_of_lt sound.modulus)) m)

    -- the whole sum, reduced
    pub sum_read : (f : List ℤ) → length f ≡ p.n → (j i : ℕ) (acc : ℤ) → i ≡ length f → acc ≡ sum (read_term (length f) t f j) i
        → residue acc p.q ≡ evaluation_residue p f j
    unfolding evaluation_residue product_at
    sum_read f size j i acc e s =
        ap (λ (z : ℤ). residue z p.q) (s ∙ ap (λ (m : ℕ). sum (read_term (length f) t f j) m) e)
        ∙ residue-eq positive
        (sum-cong (read_term (length f) t f j) (term p f j) (length f)
        (λ i l. cong-mul (cong_refl (coefficient f i)) (rw size (power_read (i * j) (omega (arith, size))))))
