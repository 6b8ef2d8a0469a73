-- The lists that the code convolves, the coefficients' residues and the powers of g in the order of a table: their entries, which are below q and modulo q
-- those of the reordering.
-- Assumes nothing.
use mathlib.Core.Path.{◌≡◌, sym, ap, ◌∙◌}
use mathlib.Core.List.{List}
use Prim.Native.Nat.{ℕ, ◌-◌, ◌^◌, ◌%◌, ◌<◌}
use native.Mathlib.Nat.{mod-lt}
use native.Mathlib.Omega.{arith}
use lib.Dec.{T, ltb, lt→ltb}
use lib.IntN.{ℤ, pos}
use lib.ListN.{length, get_or, length-map}
use Rattle.algebra.specs.All.{are_below}
use Rattle.algebra.specs.Integer.{residue}
use Rattle.algebra.proofs.All.{all_from}
use Rattle.algebra.proofs.Congruence.{Cong, cong-eq, cong_sym, cong_trans, cong-residue, residue_below}
use Rattle.parameters.specs.declared.Params.{Params}
use Rattle.parameters.specs.Ring.{Usable}
use Rattle.polynomial.specs.Polynomial.{coefficient}
use Rattle.transform.specs.Prime.{Prime}
use Rattle.transform.specs.Generator.{GeneratorTable}
use Rattle.transform.specs.Convolution.{entry, convolution}
use Rattle.transform.specs.Reordering.{reordered_coefficients, reordered_powers}
use Rattle.transform.specs.Asks.{TableOf, Convolvable, residues_backwards, powers_in_order}
use Rattle.transform.proofs.UpFrom.{map_at, up_map-length, up_map-all, from_zero_at}
use Rattle.transform.proofs.GeneratorLaws.{table_power, table_generator}
use Rattle.transform.proofs.ConvolutionLaws.{convolution-length}
use Rattle.transform.proofs.ReorderedSum.{r_round}

-- ---- the residues
module _ (q : ℕ) (f : List ℤ) (t : List ℕ) where
  -- the coefficient that is read at place i
  abbrev read : ℕ → ℤ
  read i = coefficient f (get_or t ((length t - i) % length t) 0)

  pub backwards_length : length (residues_backwards q f t) ≡ length t
  unfolding residues_backwards
  backwards_length = up_map-length _ 0 (length t)

  backwards_at : (i : ℕ) → i < length t → get_or (residues_backwards q f t) i 0 ≡ residue (read i) q
  unfolding residues_backwards
  backwards_at i h = from_zero_at (λ (i : ℕ). residue (read i) q) (length t) i 0 h

  pub backwards_below : 0 < q → T (are_below q (residues_backwards q f t))
  unfolding residues_backwards
  backwards_below positive = up_map-all (λ (i : ℕ). residue (read i) q) (λ (v : ℕ). ltb v q) 0 (length t) (λ i. lt→ltb _ q (residue_below positive (read i)))

-- ---- the powers
module _ (powers t : List ℕ) where
  pub powers-length : length (powers_in_order powers t) ≡ length t
  unfolding powers_in_order
  powers-length = length-map t (λ (e : ℕ). get_or powers e 0)

  powers_at : (i : ℕ) → i < length t → get_or (powers_in_order powers t) i 0 ≡ get_or powers (get_or t i 0) 0
  unfolding powers_in_order
  powers_at i h = map_at (λ (e : ℕ). get_or powers e 0) t i 0 0 h

-- ---- both, where the table has a generator's powers
module _ {p : Params} {r : ℕ} {t powers : List ℕ} (usable : Usable p powers) (prime : Prime p.n) (g : GeneratorTable r p.n t) where
  positive : 0 < p.q
  positive = omega (arith, usable.sound.modulus)

  pub entry_at : (i : ℕ) → i < p.n - 1 → get_or t i 0 ≡ r ^ i % p.n
  entry_at i l = table_power prime.above g i (omega (arith, g.size))

  -- the table read backwards
  entry_back : (i : ℕ) → i < p.n - 1 → get_or t ((length t - i) % length t) 0 ≡ r ^ (p.n - 1 - i) % p.n
  entry_back i l =
      let some : 0 < p.n - 1 = omega arith in
      ap (λ (n : ℕ). get_or t ((n - i) % n) 0) g.size
      ∙ entry_at ((p.n - 1 - i) % (p.n - 1)) (mod-lt (p.n - 1 - i) some)
      ∙ r_round prime.above (table_generator prime.above g) (p.n - 1 - i)

  pub coefficient_read : (f : List ℤ) (i : ℕ) → i < p.n - 1 → Cong p.q (entry (residues_backwards p.q f t) i) (reordered_coefficients r p f i)
  coefficient_read f i l =
      let e = backwards_at p.q f t i (omega (arith, g.size)) ∙ ap (λ (k : ℕ). residue (coefficient f k) p.q) (entry_back i l) in
      cong_trans (cong-eq (ap pos e)) (cong_sym (cong-residue positive (reordered_coefficients r p f i)))

  power_is : (i : ℕ) → i < p.n - 1 → get_or (powers_in_order powers t) i 0 ≡ p.g ^ (r ^ i % p.n) % p.q
  power_is i l =
      let several : 0 < p.n = omega arith in
      powers_at powers t i (omega (arith, g.size))
      ∙ ap (λ (e : ℕ). get_or powers e 0) (entry_at i l)
      ∙ usable.table (r ^ i % p.n) (mod-lt (r ^ i) several)

  pub power_read : (i : ℕ) → i < p.n - 1 → Cong p.q (entry (powers_in_order powers t) i) (reordered_powers r p i)
  power_read i l = cong_trans (cong-eq (ap pos (power_is i l))) (cong_sym (cong-residue positive (reordered_powers r p i)))

  pub powers_below : T (are_below p.q (powers_in_order powers t))
  powers_below =
      all_from (λ (v : ℕ). ltb v p.q) (powers_in_order powers t) 0
      (λ i l. lt→ltb _ p.q (omega (arith, power_is i (omega (arith, g.size, powers-length powers t)), mod-lt (p.g ^ (r ^ i % p.n)) positive)))

-- both lists may be convolved
pub convolvable : {p : Params} {t powers : List ℕ} → Usable p powers → Prime p.n → TableOf p.n t → (f : List ℤ)
    → Convolvable p.q (residues_backwards p.q f t) (powers_in_order powers t)
convolvable {p} {t} {powers} usable prime order f =
    let positive : 0 < p.q = omega (arith, usable.sound.modulus) in
    record {
      size = powers-length powers t ∙ sym (backwards_length p.q f t);
      room = omega (arith, backwards_length p.q f t, prime.above, order.table.size, usable.fitting.size);
      positive = positive;
      modulus = usable.fitting.modulus;
      first = backwards_below p.q f t positive;
      second = powers_below usable prime order.table;
    }

pub values-length : (q : ℕ) (f : List ℤ) (t powers : List ℕ) → length (convolution q (residues_backwards q f t) (powers_in_order powers t)) ≡ length t
values-length q f t powers = convolution-length q _ _ ∙ backwards_length q f t
