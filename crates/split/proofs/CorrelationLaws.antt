-- The stages with a set's tables: the sum of u with the powers of g in the generator's order, by the split's theorem.
-- Assumes nothing.
use mathlib.Core.Path.{◌≡◌, sym, ap, ap₂, ◌∙◌, subst}
use mathlib.Core.List.{List}
use mathlib.Core.Logic.{⊎_elim}
use Prim.Native.Nat.{ℕ, ◌+◌, ◌-◌, ◌*◌, ◌/◌, ◌^◌, ◌%◌, ◌<◌, ◌≤◌}
use native.Mathlib.Nat.{add-mul, zero-mul, one-mul, mul-one, add-zero, mul_comm, mod-lt, mod-mod, div-add-mod, add-mod_left}
use native.Mathlib.Omega.{arith}
use lib.Pow.{pow-add}
use lib.IntN.{ℤ, pos, ◌*ℤ◌}
use lib.ListN.{length}
use Rattle.algebra.specs.Integer.{sum}
use Rattle.algebra.proofs.Congruence.{Cong, cong_refl, cong-eq, cong_trans, cong-mul, cong-residue, eq-residue}
use Rattle.algebra.proofs.Ring.{*ℤ_idl}
use Rattle.algebra.proofs.Sum.{sum-cong, sum_same}
use Rattle.algebra.proofs.Test.{lt_or_le}
use Rattle.parameters.specs.declared.Params.{Params}
use Rattle.parameters.specs.Sound.{Sound}
use Rattle.transform.specs.Generator.{Generator}
use Rattle.transform.specs.Convolution.{entry}
use Rattle.transform.specs.Reordering.{reordered_powers}
use Rattle.transform.proofs.GeneratorLaws.{table_generator}
use Rattle.transform.proofs.ReorderedSum.{r_round, g_round}
use Rattle.split_tables.specs.Split.{SplitTables, Twists, Rows, shape_of, root_at, row_at, width}
use Rattle.split.specs.Levels.{root_of}
use Rattle.split.specs.Values.{Correlated}
use Rattle.split.proofs.TreeBounds.{div_below, positive_factor}
use Rattle.split.proofs.SplitSum.{Ruled, Stages, split_sum}

module _ {p : Params} {order twists rows : List ℕ} (sound : Sound p) (several : 1 < p.n) (tables : SplitTables p order twists rows) where
  abbrev k : ℕ
  k = length twists

  abbrev l : ℕ
  l = (shape_of p.n).l

  abbrev root : ℕ → ℕ
  root = root_of p.q twists

  abbrev base : ℕ
  base = tables.base

  -- the powers of g in the generator's order
  abbrev w : ℕ → ℤ
  w = reordered_powers base p

  positive : 0 < p.q
  positive = omega (arith, sound.modulus)

  generator : Generator base p.n
  generator = table_generator several tables.generator

  -- the parts of the tables, with the number of roots as the code has it
  roots_count : (shape_of p.n).k ≡ k
  roots_count = sym tables.twisted.size

  pub twisted : Twists p.q k (shape_of p.n).start twists
  twisted = subst (λ (n : ℕ). Twists p.q n (shape_of p.n).start twists) roots_count tables.twisted

  pub rowed : Rows p base k l root rows
  rowed = subst (λ (n : ℕ). Rows p base n l (root_at p.q twists n) rows) roots_count tables.rowed

  pub whole : k * l ≡ p.n - 1
  whole = ap (λ (x : ℕ). x * l) (sym roots_count) ∙ tables.shape

  -- the rule of the tables, for the first K powers
  abbrev combined : ℕ → ℕ → ℤ
  combined e x = sum (λ (s : ℕ). pos (root s ^ e) *ℤ pos (row_at l rows s x)) k

  rule_once : (e x : ℕ) → e < k → x < width l → Cong p.q (combined e x) (w (e * l + x))
  rule_once e x he hx =
      let j = base ^ (e * l + x) in
      cong_trans (eq-residue positive {a = combined e x} {b = pos (p.g ^ j)} (rowed.rule e x he hx))
      (g_round sound several generator j (j % p.n) (sym (mod-mod j p.n)))

  -- and for the next K: the roots to the K are 1, and the order of the powers goes round
  rule_again : (e x : ℕ) → e < k → x < width l → Cong p.q (combined (k + e) x) (w ((k + e) * l + x))
  rule_again e x he hx =
      let one : (s : ℕ) → s < k → Cong p.q (pos (root s ^ (k + e))) (pos (root s ^ e)) =
      λ s hs. cong_trans (cong-eq (ap pos (pow-add (root s) k e)))
      (cong_trans
      (cong-mul (cong_trans (cong-residue positive (pos (root s ^ k))) (cong-eq (ap pos (twisted.unity s hs)))) (cong_refl (pos (root s ^ e))))
      (cong-eq (*ℤ_idl (pos (root s ^ e))))) in
      let far : (k + e) * l + x ≡ p.n - 1 + (e * l + x) = omega (arith, add-mul k e l, whole) in
      cong_trans
      (sum-cong (λ (s : ℕ). pos (root s ^ (k + e)) *ℤ pos (row_at l rows s x)) (λ (s : ℕ). pos (root s ^ e) *ℤ pos (row_at l rows s x)) k
      (λ s hs. cong-mul (one s hs) (cong_refl (pos (row_at l rows s x)))))
      (cong_trans (rule_once e x he hx)
      (cong-eq (ap (λ (y : ℕ). pos (p.g ^ y))
      (sym (r_round several generator (e * l + x))
      ∙ ap (λ (y : ℕ). base ^ y % p.n) (sym (add-mod_left (p.n - 1) (e * l + x)) ∙ ap (λ (y : ℕ). y % (p.n - 1)) (sym far))
      ∙ r_round several generator ((k + e) * l + x)))))

  ruled : Ruled p.q k l root (λ s x. pos (row_at l rows s x)) w
  ruled =
      record {
        each = λ e x he hx.
            ⊎_elim
            (λ (h : e < k). rule_once e x h (omega arith))
            (λ (h : k ≤ e).
            let up : k + (e - k) ≡ e = omega arith in
            subst (λ (n : ℕ). Cong p.q (combined n x) (w (n * l + x))) up (rule_again (e - k) x (omega arith) (omega arith)))
            (lt_or_le e k);
      }

  module _ {u out : List ℕ} (stages : Correlated p.q l twists rows u out) where
    three_stages : Stages p.q k l root (λ s x. pos (row_at l rows s x)) (entry u) (entry out)
    three_stages =
        record {
          xs = λ s i. entry stages.xs (s * l + i);
          ys = λ s v. entry stages.ys (s * l + v);
          cut = λ s i hs hi.
              let narrow : 1 * l ≡ l = one-mul l in
              let leaf : s * 1 + 0 ≡ s = add-zero (s * 1) ∙ mul-one s in
              cong_trans (cong-eq (ap (λ (n : ℕ). entry stages.xs (s * n + i)) (sym narrow)))
              (cong_trans (eq-residue positive (stages.cut.each s 0 i hs (omega arith) (omega (arith, narrow))))
              (cong-eq
              (sum_same (λ (j : ℕ). pos (root (s * 1 + 0) ^ (1 * j)) *ℤ entry u (j * (1 * l) + i)) (λ (j : ℕ). pos (root s ^ j) *ℤ entry u (j * l + i)) k
              (λ j hj.
              ap₂ (λ (x y : ℤ). x *ℤ y) (ap₂ (λ (x y : ℕ). pos (root x ^ y)) leaf (one-mul j)) (ap (λ (n : ℕ). entry u (j * n + i)) narrow)))));
          products = λ s v hs hv. eq-residue positive (stages.products.each s v hs hv);
          joined = λ e v he hv.
              let none : 0 * (k * l) + (e * l + v) ≡ e * l + v = omega (arith, zero-mul (k * l)) in
              cong_trans (cong-eq (ap (entry out) (sym none)))
              (cong_trans (eq-residue positive (stages.joined.each 0 e v (omega arith) he hv))
              (cong-eq
              (sum_same (λ (s : ℕ). pos (root (0 * k + s) ^ e) *ℤ entry stages.ys ((0 * k + s) * l + v)) (λ (s : ℕ). pos (root s ^ e) *ℤ entry
              stages.ys (s * l + v)) k
              (λ s hs.
              let first : 0 * k + s ≡ s = omega (arith, zero-mul k) in
              ap (λ (n : ℕ). pos (root n ^ e) *ℤ entry stages.ys (n * l + v)) first))));
        }

    -- place m of the result: the sum of u at i times the power i places on
    pub correlated_at : (m : ℕ) → m < p.n - 1 → Cong p.q (entry out m) (sum (λ (i : ℕ). entry u i *ℤ w (i + m)) (p.n - 1))
    correlated_at m h =
        let inside : m < k * l = omega (arith, whole) in
        let some : 0 < l = positive_factor m k l inside in
        let place : m / l * l + m % l ≡ m = omega (arith, div-add-mod m l, mul_comm l (m / l)) in
        cong_trans (cong-eq (ap (entry out) (sym place)))
        (cong_trans (split_sum ruled three_stages (m / l) (m % l) (div_below m k l some inside) (mod-lt m {m = l} some))
        (cong-eq
        (ap₂ (λ (x n : ℕ). sum (λ (i : ℕ). entry u i *ℤ w (x + i)) n) place whole
        ∙ sum_same (λ (i : ℕ). entry u i *ℤ w (m + i)) (λ (i : ℕ). entry u i *ℤ w (i + m)) (p.n - 1)
        (λ i hi. let turned : m + i ≡ i + m = omega arith in ap (λ (x : ℕ). entry u i *ℤ w x) turned))))
