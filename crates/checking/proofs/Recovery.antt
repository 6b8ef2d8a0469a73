-- The recovered commitment: a difference by one remainder, the differences as a loop works them out one place a turn, and the evaluations that they are of.
-- Assumes nothing.
use mathlib.Core.Path.{◌≡◌, refl, sym, ap, ◌∙◌}
use mathlib.Core.List.{List, [], ◌∷◌}
use Prim.Native.Nat.{ℕ, zero, suc, ◌+◌, ◌-◌, ◌*◌, ◌%◌, ◌<◌, ◌≤◌, zero-le}
use native.Mathlib.Nat.{le_of_suc-le-suc, not-suc-le-zero, lt_of_le_of_lt}
use native.Mathlib.Omega.{arith}
use lib.IntN.{ℤ, pos, ◌+ℤ◌, ◌-ℤ◌}
use lib.ListN.{length, get_or, take, set}
use lib.Seq.{take_all}
use Rattle.algebra.proofs.List.{copy_more}
use lib.Dec.{T}
use Rattle.algebra.specs.All.{are_below}
use Rattle.algebra.specs.Integer.{residue}
use Rattle.algebra.proofs.Remainder.{product_below}
use Rattle.parameters.specs.Sound.{Sound, Fitting}
use Rattle.algebra.proofs.Congruence.{residue-eq}
use Rattle.algebra.proofs.Ring.{ring, cancel_right}
use Rattle.parameters.specs.declared.Params.{Params}
use Rattle.polynomial.specs.Evaluation.{evaluation_residues}
use Rattle.polynomial.proofs.EvaluationLaws.{length-evaluation_residues, evaluation_residues_below}
use Rattle.scheme.specs.Scheme.{differences}
use Rattle.checking.specs.Asks.{Recoverable}

regroup : (z r q : ℤ) → z -ℤ r +ℤ q +ℤ r ≡ z +ℤ q
regroup z r q = simp ring

-- q × q added, so that no difference is negative; of numbers made wider
pub difference_is : {q : ℕ} (z v c : ℕ) {a m b d : ℕ} → z < q → v < q → c < q → a ≡ z → m ≡ q → b ≡ v → d ≡ c
    → (a + m * m - b * d) % m ≡ residue (pos z -ℤ pos (v * c)) q
difference_is {q} z v c h k l za mq bv dc =
    let n : ℕ = v * c in
    let r : ℕ = z + q * q - n in
    let e : r + n ≡ z + q * q = omega (arith, product_below k l) in
    rw (za, mq, bv, dc)
    (residue-eq (lt_of_le_of_lt zero-le h) {a = pos r} {b = pos z -ℤ pos n}
    (record { times = pos q; is = cancel_right (pos r) (pos z -ℤ pos n +ℤ pos (q * q)) (pos n) (ap pos e ∙ sym (regroup (pos z) (pos n) (pos (q * q)))) }))

pub length-differences : (q : ℕ) (zs vs cs : List ℕ) → length vs ≡ length zs → length cs ≡ length zs → length (differences q zs vs cs) ≡ length zs
length-differences q [] vs cs h k = refl
length-differences q (z ∷ zs) [] cs h k = h
length-differences q (z ∷ zs) (v ∷ vs) [] h k = k
length-differences q (z ∷ zs) (v ∷ vs) (c ∷ cs) h k = ap suc (length-differences q zs vs cs (omega arith) (omega arith))

pub difference_at : (q : ℕ) (zs vs cs : List ℕ) (i : ℕ) → i < length zs → i < length vs → i < length cs
    → residue (pos (get_or zs i 0) -ℤ pos (get_or vs i 0 * get_or cs i 0)) q ≡ get_or (differences q zs vs cs) i 0
difference_at q [] vs cs i h k l = absurd (not-suc-le-zero h)
difference_at q (z ∷ zs) [] cs i h k l = absurd (not-suc-le-zero k)
difference_at q (z ∷ zs) (v ∷ vs) [] i h k l = absurd (not-suc-le-zero l)
difference_at q (z ∷ zs) (v ∷ vs) (c ∷ cs) zero h k l = refl
difference_at q (z ∷ zs) (v ∷ vs) (c ∷ cs) (suc i) h k l = difference_at q zs vs cs i (le_of_suc-le-suc h) (le_of_suc-le-suc k) (le_of_suc-le-suc l)

-- one difference more, and all of them
module _ (q : ℕ) (zs vs cs : List ℕ) (i : ℕ) (out : List ℕ) where
  pub differences_more : (x : ℕ) → i < length zs → length vs ≡ length zs → length cs ≡ length zs → i < length out
      → x ≡ residue (pos (get_or zs i 0) -ℤ pos (get_or vs i 0 * get_or cs i 0)) q → take i out ≡ take i (differences q zs vs cs)
      → take (i + 1) (set out i x) ≡ take (i + 1) (differences q zs vs cs)
  differences_more x h k l room e done =
      copy_more out (differences q zs vs cs) i x 0 room (omega (arith, length-differences q zs vs cs k l)) done
      (e ∙ difference_at q zs vs cs i h (omega arith) (omega arith))

  pub differences_whole : length zs ≤ i → i ≤ length zs → length vs ≡ length zs → length cs ≡ length zs → take i out ≡ take i (differences q zs vs cs)
      → take (length zs) out ≡ differences q zs vs cs
  differences_whole h g k l done =
      let e : length zs ≡ i = omega arith in
      ap (λ n. take n out) e ∙ done ∙ take_all i (differences q zs vs cs) (omega (arith, length-differences q zs vs cs k l))

-- the evaluations of a challenge and of a point, in front of arrays, are what the differences ask
pub recoverable : (p : Params) (exponents vs cs zs : List ℕ) (c z : List ℤ) → Sound p → Fitting p → length exponents ≡ p.t → length vs ≡ p.t → T (are_below p.q vs)
    → take p.t cs ≡ evaluation_residues p c exponents → take p.t zs ≡ evaluation_residues p z exponents → Recoverable p.q vs (take p.t cs) (take p.t zs)
recoverable p exponents vs cs zs c z sound fitting size values below of-challenge of-z =
    let c-size = length-evaluation_residues p c exponents in
    let z-size = length-evaluation_residues p z exponents in
    rw (of-challenge, of-z)
    (record {
      modulus = fitting.modulus;
      size = omega (arith, fitting.size, fitting.exponents);
      evaluations_size = omega arith;
      challenge_size = omega arith;
      evaluations_below = below;
      challenge_below = evaluation_residues_below sound c exponents;
      z_below = evaluation_residues_below sound z exponents;
    })
