-- What stands at the places of the exponents 1 .. N - 1 after the convolution of the reordered residues and powers: the evaluations, by Rader's reordering.
-- Assumes nothing.
use mathlib.Core.Path.{◌≡◌, sym, ap, ap₂, ◌∙◌}
use mathlib.Core.List.{List, map}
use Prim.Native.Nat.{ℕ, ◌+◌, ◌-◌, ◌%◌, ◌<◌}
use native.Mathlib.Nat.{mod-lt}
use native.Mathlib.Omega.{arith}
use lib.IntN.{ℤ, pos, ◌*ℤ◌}
use lib.ListN.{length, get_or}
use lib.Seq.{ext_get_or}
use Rattle.algebra.specs.Integer.{residue, centred}
use Rattle.algebra.proofs.Centred.{centred-eq}
use Rattle.algebra.proofs.Congruence.{Cong, cong-eq, cong_sym, cong_trans, cong-add, cong-mul, cong-residue}
use Rattle.algebra.proofs.Sum.{sum-cong}
use Rattle.parameters.specs.declared.Params.{Params}
use Rattle.parameters.specs.Ring.{Usable}
use Rattle.polynomial.specs.Polynomial.{coefficient}
use Rattle.polynomial.specs.Evaluation.{evaluation, evaluations}
use Rattle.transform.specs.UpFrom.{up_from}
use Rattle.transform.specs.AllExponents.{all_exponents}
use Rattle.transform.specs.Prime.{Prime}
use Rattle.transform.specs.Generator.{GeneratorTable}
use Rattle.transform.specs.Convolution.{cyclic, entry, convolution}
use Rattle.transform.specs.Reordering.{reordered_coefficients, reordered_powers, reordered_sum}
use Rattle.transform.specs.Asks.{residues_backwards, powers_in_order, Placed}
use Rattle.transform.proofs.UpFrom.{up_map-length, up_map_at}
use Rattle.transform.proofs.ConvolutionLaws.{convolution_at}
use Rattle.transform.proofs.GeneratorLaws.{table_generator}
use Rattle.transform.proofs.ReorderedLists.{backwards_length, entry_at, coefficient_read, power_read}
use Rattle.transform.proofs.Rader.{rader}

module _ {p : Params} {r : ℕ} {t powers : List ℕ} (usable : Usable p powers) (prime : Prime p.n) (g : GeneratorTable r p.n t)
    (f : List ℤ) (size : length f ≡ p.n) where
  positive : 0 < p.q
  positive = omega (arith, usable.sound.modulus)

  abbrev u : List ℕ
  u = residues_backwards p.q f t

  abbrev w : List ℕ
  w = powers_in_order powers t

  abbrev sums : List ℕ
  sums = convolution p.q u w

  sum_at : (m : ℕ) → m < p.n - 1 → get_or sums m 0 ≡ residue (cyclic (p.n - 1) (entry u) (entry w) m) p.q
  sum_at m l =
      let count : length u ≡ p.n - 1 = backwards_length p.q f t ∙ g.size in
      convolution_at p.q u w m (omega arith) ∙ ap (λ (n : ℕ). residue (cyclic n (entry u) (entry w) m) p.q) count

  -- coefficient 0 plus place m of the convolution
  sum_read : (m : ℕ) → m < p.n - 1 → Cong p.q (pos (residue (coefficient f 0) p.q + get_or sums m 0)) (reordered_sum r p f m)
  sum_read m l =
      let some : 0 < p.n - 1 = omega arith in
      cong-add (cong_sym (cong-residue positive (coefficient f 0)))
      (cong_trans (cong-eq (ap pos (sum_at m l)))
      (cong_trans (cong_sym (cong-residue positive (cyclic (p.n - 1) (entry u) (entry w) m)))
      (sum-cong (λ (i : ℕ). entry u i *ℤ entry w ((m + (p.n - 1 - i)) % (p.n - 1)))
      (λ (i : ℕ). reordered_coefficients r p f i *ℤ reordered_powers r p ((m + (p.n - 1 - i)) % (p.n - 1))) (p.n - 1)
      (λ i b.
      cong-mul (coefficient_read usable prime g f i b)
      (power_read usable prime g ((m + (p.n - 1 - i)) % (p.n - 1)) (mod-lt (m + (p.n - 1 - i)) some))))))

  pub placed_evaluations : {out : List ℤ} {first : ℕ} {found : List ℕ} → length out ≡ p.n - 1 → first ≡ residue (coefficient f 0) p.q → found ≡ sums
      → Placed t (λ (m : ℕ). centred (pos (first + get_or found m 0)) p.q) out (length t) → out ≡ evaluations p f (all_exponents p)
  unfolding evaluations
  placed_evaluations {out} room e s placed =
      ext_get_or (pos 0) out (map (evaluation p f) (up_from 1 (p.n - 1))) (room ∙ sym (up_map-length (evaluation p f) 1 (p.n - 1)))
      (λ i l.
      let inside : i < p.n - 1 = omega arith in
      let from = g.each (1 + i) (omega arith) (omega arith) in
      let m = from.place in
      let place : i ≡ get_or t m 0 - 1 = omega (arith, from.is) in
      let known : m < p.n - 1 = omega (arith, from.below, g.size) in
      ap (λ (k : ℕ). get_or out k (pos 0)) place
      ∙ placed.each m (pos 0) from.below
      ∙ ap₂ (λ (a : ℕ) (l : List ℕ). centred (pos (a + get_or l m 0)) p.q) e s
      ∙ centred-eq positive (sum_read m known)
      ∙ sym (rader usable.sound prime (table_generator prime.above g) f size m).in_range
      ∙ ap (evaluation p f) (sym (entry_at usable prime g m known) ∙ from.is)
      ∙ sym (up_map_at (evaluation p f) 1 (p.n - 1) i (pos 0) inside))
