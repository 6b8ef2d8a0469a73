-- What stands at the places of the exponents: the evaluations, by Rader's reordering read forwards. Of the sums by the split, and of a challenge's.
-- Assumes nothing.
use mathlib.Core.Path.{◌≡◌, sym, ap, ◌∙◌}
use mathlib.Core.List.{List, map}
use Prim.Native.Nat.{ℕ, ◌+◌, ◌-◌, ◌*◌, ◌^◌, ◌%◌, ◌<◌}
use native.Mathlib.Nat.{mod-mod, mod-lt}
use native.Mathlib.Omega.{arith}
use lib.Dec.{T, ltb, lt→ltb}
use lib.IntN.{ℤ, pos, ◌+ℤ◌, ◌*ℤ◌}
use lib.ListN.{length, get_or, length-map}
use Rattle.algebra.specs.All.{are_below}
use Rattle.algebra.specs.Integer.{residue, sum}
use Rattle.algebra.proofs.All.{all_from, below_at}
use Rattle.algebra.proofs.Congruence.{Cong, cong_refl, cong-eq, cong_sym, cong_trans, cong-add, cong-mul, cong-residue, residue-eq, residue_below}
use Rattle.algebra.proofs.Sum.{sum-cong}
use Rattle.parameters.specs.declared.Params.{Params}
use Rattle.parameters.specs.Ring.{Usable}
use Rattle.polynomial.specs.Polynomial.{coefficient}
use Rattle.polynomial.specs.Evaluation.{evaluation_residue}
use Rattle.transform.specs.Asks.{Placed}
use Rattle.transform.specs.Convolution.{entry}
use Rattle.transform.specs.Generator.{GeneratorTable}
use Rattle.transform.specs.Reordering.{reordered_powers}
use Rattle.transform.proofs.GeneratorLaws.{table_power, table_generator}
use Rattle.transform.proofs.ReorderedSum.{sum-forwards, r_round}
use Rattle.transform.proofs.UpFrom.{map_at}
use Rattle.split_tables.specs.Split.{SplitTables, shape_of}
use Rattle.split.specs.Levels.{UnderIn}
use Rattle.split.specs.Sparse.{Twice, sparse_sum}
use Rattle.split.specs.Values.{in_order, Correlated, AtExponents}
use Rattle.split.proofs.CorrelationLaws.{correlated_at}

-- ---- numbers in the order of a table
pub ordered_length : (numbers order : List ℕ) → length (in_order numbers order) ≡ length order
unfolding in_order
ordered_length numbers order = length-map order (λ (e : ℕ). get_or numbers e 0)

ordered_at : (numbers order : List ℕ) (i : ℕ) → i < length order → get_or (in_order numbers order) i 0 ≡ get_or numbers (get_or order i 0) 0
unfolding in_order
ordered_at numbers order i h = map_at (λ (e : ℕ). get_or numbers e 0) order i 0 0 h

pub ordered_under : {q : ℕ} (numbers order : List ℕ) → T (are_below q numbers) → T (are_below (length numbers) order)
    → UnderIn q (in_order numbers order) 0 (length (in_order numbers order))
ordered_under {q} numbers order below inside =
    record {
      each = λ k h.
          let at : 0 + k ≡ k = omega arith in
          let place : k < length order = omega (arith, ordered_length numbers order) in
          omega (
            arith,
            ap (λ (i : ℕ). get_or (in_order numbers order) i 0) at,
            ordered_at numbers order k place,
            below_at q numbers below (get_or order k 0) (below_at (length numbers) order inside k place),
          );
    }

-- ---- the coefficients, reduced to 0..q-1
abbrev lifted : ℕ → List ℤ → List ℕ
lifted q f = map (λ (a : ℤ). residue a q) f

pub lifted_at : (q : ℕ) (f : List ℤ) (i : ℕ) → i < length f → get_or (lifted q f) i 0 ≡ residue (coefficient f i) q
lifted_at q f i h = map_at (λ (a : ℤ). residue a q) f i 0 (pos 0) h

pub lifted_below : {q : ℕ} → 0 < q → (f : List ℤ) → T (are_below q (lifted q f))
lifted_below {q} some f =
    all_from (λ (v : ℕ). ltb v q) (lifted q f) 0
    (λ k h.
    let inside : k < length f = omega (arith, length-map f (λ (a : ℤ). residue a q)) in
    lt→ltb (get_or (lifted q f) k 0) q (omega (arith, lifted_at q f k inside, residue_below some (coefficient f k))))

module _ {p : Params} {base : ℕ} {powers order : List ℕ} (usable : Usable p powers) (several : 1 < p.n) (table : GeneratorTable base p.n order)
    (f : List ℤ) (size : length f ≡ p.n) where
  positive : 0 < p.q
  positive = omega (arith, usable.sound.modulus)

  -- the sum at exponent base to the m
  abbrev pub forward_sum : ℕ → ℤ
  forward_sum m = coefficient f 0 +ℤ sum (λ (i : ℕ). coefficient f (base ^ i % p.n) *ℤ reordered_powers base p (i + m)) (p.n - 1)

  order_at : (i : ℕ) → i < p.n - 1 → get_or order i 0 ≡ base ^ i % p.n
  order_at i h = table_power several table i (omega (arith, table.size))

  pub exponents_placed : {values : List ℕ} {value : ℕ → ℕ} → ((m : ℕ) → m < p.n - 1 → value m ≡ residue (forward_sum m) p.q)
      → Placed order value values (length order) → AtExponents p f values
  unfolding evaluation_residue
  exponents_placed {values} {value} found placed =
      record {
        each = λ e above below.
            let from = table.each e above below in
            let m = from.place in
            let inside : m < p.n - 1 = omega (arith, from.below, table.size) in
            let at : e % p.n ≡ base ^ m % p.n =
            ap (λ (x : ℕ). x % p.n) (sym from.is ∙ order_at m inside) ∙ mod-mod (base ^ m) p.n in
            ap (λ (x : ℕ). get_or values (x - 1) 0) (sym from.is)
            ∙ placed.each m 0 from.below
            ∙ found m inside
            ∙ sym (residue-eq positive (sum-forwards usable.sound several (table_generator several table) f size m e at));
      }

  -- ---- the sums by the split
  residues_at : (i : ℕ) → i < p.n - 1 → Cong p.q (entry (in_order (lifted p.q f) order) i) (coefficient f (base ^ i % p.n))
  residues_at i h =
      let e = base ^ i % p.n in
      let some : 0 < p.n = omega (arith, several) in
      let below : e < length f = omega (arith, mod-lt (base ^ i) some, size) in
      cong_trans
      (cong-eq (ap pos
      (ordered_at (lifted p.q f) order i (omega (arith, table.size))
      ∙ ap (λ (x : ℕ). get_or (lifted p.q f) x 0) (order_at i h)
      ∙ lifted_at p.q f e below)))
      (cong_sym (cong-residue positive (coefficient f e)))

  -- ---- the sums of a challenge
  module _ {t : List ℕ} (twice : Twice powers order t) where
    power_at : (i : ℕ) → i < 2 * (p.n - 1) → Cong p.q (entry t i) (reordered_powers base p i)
    power_at i h =
        let some : 0 < p.n - 1 = omega arith in
        let inside : i % (p.n - 1) < p.n - 1 = mod-lt i some in
        let gen = table_generator several table in
        let e = base ^ i % p.n in
        let place : get_or order (i % length order) 0 ≡ e =
        ap (λ (n : ℕ). get_or order (i % n) 0) table.size ∙ order_at (i % (p.n - 1)) inside ∙ r_round several gen i in
        let below : e < p.n = mod-lt (base ^ i) (omega arith) in
        cong_trans
        (cong-eq (ap pos (twice.each i (omega (arith, table.size)) ∙ ap (λ (x : ℕ). get_or powers x 0) place ∙ usable.table e below)))
        (cong_sym (cong-residue positive (pos (p.g ^ e))))

    pub sparse_at : (m : ℕ) → m < p.n - 1 → Cong p.q (coefficient f 0 +ℤ sparse_sum f order t (length order) m) (forward_sum m)
    sparse_at m h =
        cong-add (cong_refl (coefficient f 0))
        (cong_trans (cong-eq (ap (λ (n : ℕ). sum (λ (i : ℕ). coefficient f (get_or order i 0) *ℤ entry t (i + m)) n) table.size))
        (sum-cong (λ (i : ℕ). coefficient f (get_or order i 0) *ℤ entry t (i + m)) (λ (i : ℕ). coefficient f (base ^ i % p.n) *ℤ reordered_powers base p
        (i + m)) (p.n - 1)
        (λ i hi. cong-mul (cong-eq (ap (coefficient f) (order_at i hi))) (power_at (i + m) (omega arith)))))

-- with the tables of the split
module _ {p : Params} {powers order twists rows : List ℕ} (usable : Usable p powers) (several : 1 < p.n) (tables : SplitTables p order twists rows)
    (f : List ℤ) (size : length f ≡ p.n) {out : List ℕ}
    (stages : Correlated p.q (shape_of p.n).l twists rows (in_order (lifted p.q f) order) out) where
  some_q : 0 < p.q
  some_q = omega (arith, usable.sound.modulus)

  split_at : (m : ℕ) → m < p.n - 1
      → Cong p.q (coefficient f 0 +ℤ entry out m) (forward_sum usable several tables.generator f size m)
  split_at m h =
      cong-add (cong_refl (coefficient f 0))
      (cong_trans (correlated_at usable.sound several tables stages m h)
      (sum-cong (λ (i : ℕ). entry (in_order (lifted p.q f) order) i *ℤ reordered_powers tables.base p (i + m))
      (λ (i : ℕ). coefficient f (tables.base ^ i % p.n) *ℤ reordered_powers tables.base p (i + m)) (p.n - 1)
      (λ i hi. cong-mul (residues_at usable several tables.generator f size i hi) (cong_refl (reordered_powers tables.base p (i + m))))))

  pub split_values : {values : List ℕ} {first : ℕ} → first ≡ residue (coefficient f 0) p.q → length out ≡ p.n - 1
      → Placed order (λ (i : ℕ). get_or (map (λ (s : ℕ). (first + s) % p.q) out) i 0) values (length order) → AtExponents p f values
  split_values {values} {first} e count placed =
      exponents_placed usable several tables.generator f size
      (λ m h.
      map_at (λ (s : ℕ). (first + s) % p.q) out m 0 0 (omega (arith, count))
      ∙ residue-eq some_q
      (cong_trans
      (cong-add (cong_trans (cong-eq (ap pos e)) (cong_sym (cong-residue some_q (coefficient f 0)))) (cong_refl (entry out m)))
      (split_at m h)))
      placed
