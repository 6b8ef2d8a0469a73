-- A challenge's evaluations from its sums: a sum of either sign reduced by way of a natural number, and the sums of a set's powers.
-- Assumes nothing.
use mathlib.Core.Path.{◌≡◌, refl, sym, ap, ap₂, ◌∙◌}
use mathlib.Core.List.{List, map}
use Prim.Native.Nat.{ℕ, suc, ◌-◌, ◌*◌, ◌%◌, ◌^◌, ◌<◌, ◌≤◌}
use native.Mathlib.Nat.{mul_comm, mod-lt}
use native.Mathlib.Omega.{arith}
use borrow.Author.Tests.{le-ltb}
use lib.Dec.{T, ltb, lt→ltb}
use lib.IntN.{ℤ, pos, negsuc, ◌+ℤ◌, ◌*ℤ◌, nat_abs}
use lib.ListN.{length, get_or, take, length-take}
use lib.Seq.{get_or-take}
use mir.Facts.{to_z-of_z}
use mir.Syntax.{w8, w32, w64}
use mir.Val.{SFits, to_z, of_z}
use Rattle.algebra.specs.All.{are_below}
use Rattle.algebra.specs.Integer.{residue}
use Rattle.algebra.proofs.Absolute.{abs-add}
use Rattle.algebra.proofs.All.{all_from, below_at}
use Rattle.algebra.proofs.Congruence.{cong-eq, cong_trans, residue-eq}
use Rattle.algebra.proofs.Ring.{ring}
use Rattle.algebra.proofs.Signed.{fits_signed}
use Rattle.parameters.specs.Limits.{max_n}
use Rattle.polynomial.specs.Polynomial.{coefficient}
use Rattle.transform.specs.Asks.{Placed}
use Rattle.transform.proofs.UpFrom.{map_at}
use Rattle.split_tables.specs.declared.Ring.{Ring}
use Rattle.split_tables.specs.Split.{split_from}
use Rattle.split.specs.Fold.{Modulus}
use Rattle.split.specs.Sparse.{Twice, SparseSums}
use Rattle.split.specs.Values.{AtExponents}
use Rattle.split.proofs.SetTable as set
use Rattle.split.proofs.ValueLaws.{exponents_placed, sparse_at}

-- ---- a coefficient plus a sum, lifted by a multiple of q that is not smaller
abs_byte : (z : ℤ) → SFits w8 z → nat_abs z ≤ 2 ^ 7
abs_byte (pos n) h = omega (arith, h.sfits)
abs_byte (negsuc n) h = omega (arith, h.sfits)

pub sum_small : (a s : ℤ) → SFits w8 a → nat_abs s ≤ max_n * 2 ^ 20 → nat_abs (a +ℤ s) < 2 ^ 31
sum_small a s h l = omega (arith, abs-add a s, abs_byte a h)

pub lifted_natural : (k : ℕ) (z : ℤ) → nat_abs z ≤ k → pos k +ℤ z ≡ pos (nat_abs (pos k +ℤ z))
lifted_natural k (pos n) h = refl
lifted_natural k (negsuc n) h = rw (le-ltb k (suc n) h) refl

pub lifted_residue : {q : ℕ} → 0 < q → (t : ℕ) (z : ℤ) → nat_abs z ≤ t * q → nat_abs (pos (t * q) +ℤ z) % q ≡ residue z q
lifted_residue {q} positive t z h =
    residue-eq positive {a = pos (nat_abs (pos (t * q) +ℤ z))} {b = z}
    (record { times = pos t; is = sym (lifted_natural (t * q) z h) ∙ ap (λ (n : ℕ). pos n +ℤ z) (mul_comm t q) ∙ simp ring })

-- the same as the machine works it out: x, y and w are q, a and s as they are widened
pub lifted_read : {q : ℕ} {a s x y w : ℤ} → Modulus q → SFits w8 a → SFits w32 s → nat_abs s ≤ max_n * 2 ^ 20
    → x ≡ pos q → y ≡ to_z w8 (of_z w8 a) → w ≡ to_z w32 (of_z w32 s)
    → nat_abs (to_z w64 (of_z w64 (to_z w64 (of_z w64 (pos 4096 *ℤ to_z w64 (of_z w64 x)))
    +ℤ to_z w64 (of_z w64 (to_z w64 (of_z w64 y) +ℤ to_z w64 (of_z w64 w)))))) % q ≡ residue (a +ℤ s) q
lifted_read {q} {a} {s} {x} {y} {w} modulus a-fits s-fits small x-is y-is w-is =
    let z = a +ℤ s in
    let below = sum_small a s a-fits small in
    let read : (k : ℤ) → nat_abs k < 2 ^ 63 → to_z w64 (of_z w64 k) ≡ k = λ k l. to_z-of_z (fits_signed w64 k l) in
    let far = pos (4096 * q) +ℤ z in
    let far_below : nat_abs far < 2 ^ 51 = omega (arith, abs-add (pos (4096 * q)) z, modulus.to) in
    let x-read : to_z w64 (of_z w64 x) ≡ pos q = ap (λ (k : ℤ). to_z w64 (of_z w64 k)) x-is ∙ read (pos q) (omega (arith, modulus.to)) in
    let y-read : to_z w64 (of_z w64 y) ≡ a =
    ap (λ (k : ℤ). to_z w64 (of_z w64 k)) (y-is ∙ to_z-of_z a-fits) ∙ read a (omega (arith, abs_byte a a-fits)) in
    let w-read : to_z w64 (of_z w64 w) ≡ s = ap (λ (k : ℤ). to_z w64 (of_z w64 k)) (w-is ∙ to_z-of_z s-fits) ∙ read s (omega (arith, small)) in
    let sum : to_z w64 (of_z w64 (pos (4096 * q))) +ℤ to_z w64 (of_z w64 z) ≡ far =
    ap₂ ◌+ℤ◌ (read (pos (4096 * q)) (omega (arith, modulus.to))) (read z (omega (arith, below))) in
    rw (x-read, y-read, w-read)
    (ap (λ (k : ℤ). nat_abs k % q) (ap (λ (k : ℤ). to_z w64 (of_z w64 k)) sum ∙ read far (omega (arith, far_below)))
    ∙ lifted_residue (omega (arith, modulus.from)) 4096 z (omega (arith, below, modulus.from)))

-- ---- with the table of the split: the powers twice, without what is behind them
module _ (ring : Ring) (large : split_from ≤ ring.params.q) {t : List ℕ} (twice : Twice ring.powers.now (take (ring.params.n - 1) ring.split.now) t) where
  abbrev order : List ℕ
  order = take (ring.params.n - 1) ring.split.now

  abbrev both : List ℕ
  both = take (2 * (ring.params.n - 1)) t

  size : length order ≡ ring.params.n - 1
  size = set.order_size ring large

  several : 1 < ring.params.n
  several = set.several ring large

  twice_front : Twice ring.powers.now order both
  twice_front = record { each = λ m h. get_or-take (2 * (ring.params.n - 1)) t m 0 (omega (arith, size)) ∙ twice.each m h }

  pub twice_below : T (are_below (2 ^ 20) both)
  twice_below =
      all_from (λ (x : ℕ). ltb x (2 ^ 20)) both 0
      (λ m h.
      let some : 0 < length order = omega (arith, size, several) in
      let e = get_or order (m % length order) 0 in
      let below : e < ring.params.n = below_at ring.params.n order (set.order_below ring large ring.params.n (omega arith)) (m % length order) (mod-lt m some) in
      let positive : 0 < ring.params.q = omega (arith, large) in
      lt→ltb (get_or both m 0) (2 ^ 20)
      (omega (
        arith,
        twice_front.each m (omega (arith, length-take (2 * (ring.params.n - 1)) t, size)),
        ring.usable.table e below,
        mod-lt (ring.params.g ^ e) positive,
        (set.modulus ring large).to,
      )))

  -- coefficient 0 plus each sum, reduced, at the places of the exponents
  pub challenge_placed : (f : List ℤ) → length f ≡ ring.params.n → {sums : List ℤ} → SparseSums f order both sums → length sums ≡ ring.params.n - 1 → {values : List ℕ}
      → Placed order (λ (i : ℕ). get_or (map (λ (s : ℤ). residue (coefficient f 0 +ℤ s) ring.params.q) sums) i 0) values (length order) → AtExponents ring.params f values
  challenge_placed f whole {sums} found count placed =
      let generator = (set.tables ring large).generator in
      exponents_placed ring.usable several generator f whole
      (λ m h.
      map_at (λ (s : ℤ). residue (coefficient f 0 +ℤ s) ring.params.q) sums m 0 (pos 0) (omega (arith, count))
      ∙ residue-eq (omega (arith, large))
      (cong_trans (cong-eq (ap (λ (x : ℤ). coefficient f 0 +ℤ x) (found.each m (omega (arith, size)))))
      (sparse_at ring.usable several generator f whole twice_front m h)))
      placed
