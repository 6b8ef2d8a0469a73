-- Evaluation at a power of g respects sums and cyclic products: modulo q, the evaluation of f ⋆ c + y is f's times c's plus y's.
-- Assumes nothing.
use mathlib.Core.Path.{◌≡◌, refl, sym, ap, ap₂, ◌∙◌}
use mathlib.Core.List.{List, [], ◌∷◌}
use Prim.Native.Nat.{ℕ, zero, suc, ◌*◌, ◌^◌, ◌<◌}
use native.Mathlib.Nat.{zero-mul, suc-mul, mul_comm, pow-zero, mod-eq_of_lt, mul-mod_right}
use native.Mathlib.Omega.{arith}
use lib.Pow.{pow-add}
use lib.IntN.{ℤ, pos, ◌+ℤ◌, ◌-ℤ◌, ◌*ℤ◌}
use lib.Dec.{T, ltb, lt→ltb}
use lib.ListN.{length, length-map}
use Rattle.algebra.specs.All.{are_below}
use Rattle.algebra.specs.Integer.{residue, centred, sum}
use Rattle.algebra.proofs.Test.{and_intro}
use Rattle.algebra.proofs.Ring.{*ℤ_idr, *ℤ_left_comm}
use Rattle.algebra.proofs.Remainder.{pow_round}
use Rattle.algebra.proofs.Sum.{sum_same, sum_front, sum_times}
use Rattle.algebra.proofs.Congruence.{Cong, cong_refl, cong-eq, cong_sym, cong_trans, cong-add, cong-mul, cong-neg}
use Rattle.algebra.proofs.Congruence.{cong-residue, residue_below, residue-eq, eq-residue}
use Rattle.algebra.proofs.Centred.{cong-centred, centred-eq}
use Rattle.parameters.specs.declared.Params.{Params}
use Rattle.parameters.specs.Sound.{Sound}
use Rattle.polynomial.specs.Polynomial.{coefficient, add, neg, sub, star, z_of}
use Rattle.polynomial.specs.Evaluation.{term, sum_at, evaluation, evaluation_residue, evaluations, evaluation_residues}
use Rattle.polynomial.proofs.Linear.{sub_add}
use Rattle.polynomial.proofs.Horner.{at, power, at-add, at-neg, at-star}

pub length-evaluations : (p : Params) (f : List ℤ) (js : List ℕ) → length (evaluations p f js) ≡ length js
unfolding evaluations
length-evaluations p f js = length-map js (evaluation p f)

pub length-evaluation_residues : (p : Params) (f : List ℤ) (js : List ℕ) → length (evaluation_residues p f js) ≡ length js
unfolding evaluation_residues
length-evaluation_residues p f js = length-map js (evaluation_residue p f)

-- ---- the sum of the definition is Horner's value at g to the j
power_next : (g j i : ℕ) → g ^ (suc i * j) ≡ g ^ (i * j) * g ^ j
power_next g j i = rw suc-mul (pow-add g (i * j) j)

power_is : (g j n : ℕ) → power (pos (g ^ j)) n ≡ pos (g ^ (n * j))
power_is g j zero = rw (zero-mul, pow-zero) refl
power_is g j (suc n) = ap (λ (u : ℤ). pos (g ^ j) *ℤ u) (power_is g j n) ∙ ap pos (mul_comm (g ^ j) (g ^ (n * j)) ∙ sym (power_next g j n))

sum-power : (x : ℤ) (f : List ℤ) → sum (λ (i : ℕ). coefficient f i *ℤ power x i) (length f) ≡ at x f
sum-power x [] = refl
sum-power x (a ∷ f) =
    sum_front (λ (i : ℕ). coefficient (a ∷ f) i *ℤ power x i) (length f)
    ∙ ap₂ ◌+ℤ◌ (*ℤ_idr a)
    (sum_same (λ (i : ℕ). coefficient f i *ℤ (x *ℤ power x i)) (λ (i : ℕ). x *ℤ (coefficient f i *ℤ power x i)) (length f)
    (λ i l. *ℤ_left_comm (coefficient f i) x (power x i))
    ∙ sum_times x (λ (i : ℕ). coefficient f i *ℤ power x i) (length f)
    ∙ ap (λ (u : ℤ). x *ℤ u) (sum-power x f))

sum_is_at : (p : Params) (f : List ℤ) (j : ℕ) → sum_at p f j ≡ at (pos (p.g ^ j)) f
sum_is_at p f j =
    sum_same (term p f j) (λ (i : ℕ). coefficient f i *ℤ power (pos (p.g ^ j)) i) (length f)
    (λ i l. ap (λ (w : ℤ). coefficient f i *ℤ w) (sym (power_is p.g j i)))
    ∙ sum-power (pos (p.g ^ j)) f

evaluation-at : (p : Params) (f : List ℤ) (j : ℕ) → evaluation p f j ≡ centred (at (pos (p.g ^ j)) f) p.q
unfolding evaluation
evaluation-at p f j = ap (λ (s : ℤ). centred s p.q) (sum_is_at p f j)

residue-at : (p : Params) (f : List ℤ) (j : ℕ) → evaluation_residue p f j ≡ residue (at (pos (p.g ^ j)) f) p.q
unfolding evaluation_residue
residue-at p f j = ap (λ (s : ℤ). residue s p.q) (sum_is_at p f j)

module _ {p : Params} (sound : Sound p) where
  positive : 0 < p.q
  positive = omega (arith, sound.modulus)

  residue_small : (f : List ℤ) (j : ℕ) → evaluation_residue p f j < p.q
  residue_small f j = rw (residue-at p f j) (residue_below positive (at (pos (p.g ^ j)) f))

  pub evaluation_residues_below : (f : List ℤ) (js : List ℕ) → T (are_below p.q (evaluation_residues p f js))
  unfolding evaluation_residues
  evaluation_residues_below f [] = tt
  evaluation_residues_below f (j ∷ js) =
      and_intro (ltb (evaluation_residue p f j) p.q) (are_below p.q (evaluation_residues p f js))
      (lt→ltb (evaluation_residue p f j) p.q (residue_small f j)) (evaluation_residues_below f js)

  module _ (j : ℕ) where
    -- ---- values at g to the j modulo q, of which the evaluation is one in either form
    value : List ℤ → ℤ
    value f = at (pos (p.g ^ j)) f

    is_value : (f : List ℤ) → Cong p.q (evaluation p f j) (value f)
    unfolding value
    is_value f = rw (evaluation-at p f j) (cong_sym (cong-centred positive (at (pos (p.g ^ j)) f)))

    residue_is_value : (f : List ℤ) → Cong p.q (pos (evaluation_residue p f j)) (value f)
    unfolding value
    residue_is_value f = rw (residue-at p f j) (cong_sym (cong-residue positive (at (pos (p.g ^ j)) f)))

    -- what agrees with a polynomial's value modulo q has its evaluation
    evaluation_of_cong : (f : List ℤ) {v : ℤ} → Cong p.q (value f) v → evaluation p f j ≡ centred v p.q
    unfolding value
    evaluation_of_cong f e = evaluation-at p f j ∙ centred-eq positive e

    cyclic : Cong p.q (power (pos (p.g ^ j)) p.n) (pos 1)
    cyclic =
        cong_trans (cong-eq (power_is p.g j p.n))
        (eq-residue positive {a = pos (p.g ^ (p.n * j))} {b = pos 1}
        (sym (pow_round p.g p.q p.n (sound.cyclic ∙ sym (mod-eq_of_lt sound.modulus)) (p.n * j)) ∙ rw (mul-mod_right, pow-zero)))

    value-star : (f c : List ℤ) → length f ≡ p.n → Cong p.q (value (star f c)) (value f *ℤ value c)
    unfolding value
    value-star f c e = at-star (pos (p.g ^ j)) f c (rw e cyclic)

    value_z : (f c y : List ℤ) → length f ≡ p.n → Cong p.q (value (z_of f c y)) (value f *ℤ value c +ℤ value y)
    unfolding value
    value_z f c y e = cong_trans (cong-eq (at-add (pos (p.g ^ j)) (star f c) y)) (cong-add (value-star f c e) (cong_refl (value y)))

    -- ---- the laws
    pub evaluation-add : (f h : List ℤ) → evaluation p (add f h) j ≡ centred (evaluation p f j +ℤ evaluation p h j) p.q
    unfolding value
    evaluation-add f h =
        evaluation_of_cong (add f h) (cong_trans (cong-eq (at-add (pos (p.g ^ j)) f h)) (cong_sym (cong-add (is_value f) (is_value h))))

    pub evaluation-star : (f c : List ℤ) → length f ≡ p.n → evaluation p (star f c) j ≡ centred (evaluation p f j *ℤ evaluation p c j) p.q
    evaluation-star f c e = evaluation_of_cong (star f c) (cong_trans (value-star f c e) (cong_sym (cong-mul (is_value f) (is_value c))))

    -- the point's evaluation minus the product of the key's and the challenge's is the mask's: how a check gets the commitment, in 0..q-1
    pub residue_of_mask : (f c y : List ℤ) → length f ≡ p.n
        → residue (pos (evaluation_residue p (z_of f c y) j) -ℤ pos (evaluation_residue p f j * evaluation_residue p c j)) p.q ≡ evaluation_residue p y j
    unfolding value
    residue_of_mask f c y e =
        residue-eq positive
        (cong_trans (cong-add (cong_trans (residue_is_value (z_of f c y)) (value_z f c y e)) (cong-neg (cong-mul (residue_is_value f) (residue_is_value c))))
        (cong-eq (sub_add (value y) (value f *ℤ value c))))
        ∙ sym (residue-at p y j)

    -- where two keys have one evaluation, the point minus the other key's product has the mask's: the other key's own mask
    pub evaluation_other_mask : (f h c y : List ℤ) → length f ≡ p.n → length h ≡ p.n → evaluation p f j ≡ evaluation p h j
        → evaluation p (sub (z_of f c y) (star h c)) j ≡ evaluation p y j
    unfolding value
    evaluation_other_mask f h c y e e' same =
        let agree = cong_trans (cong_sym (is_value h)) (cong_trans (cong-eq (sym same)) (is_value f)) in
        let minus = cong-neg (cong_trans (value-star h c e') (cong-mul agree (cong_refl (value c)))) in
        evaluation_of_cong (sub (z_of f c y) (star h c))
        (cong_trans (cong-eq (at-add (pos (p.g ^ j)) (z_of f c y) (neg (star h c))))
        (cong_trans (cong-add (value_z f c y e) (cong_trans (cong-eq (at-neg (pos (p.g ^ j)) (star h c))) minus))
        (cong-eq (sub_add (value y) (value f *ℤ value c)))))
        ∙ sym (evaluation-at p y j)
