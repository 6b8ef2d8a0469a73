-- `challenge_values` meets its contract: the rows of the table's powers give the sums, and the sums the evaluations.
use mathlib.Core.Path.{◌≡◌, refl, sym, ap, ◌∙◌}
use mathlib.Core.List.{List, ◌++◌, map}
use Prim.Native.Nat.{ℕ, ◌-◌, ◌*◌}
use native.Mathlib.Omega.{arith}
use lib.IntN.{ℤ, pos, ◌+ℤ◌}
use lib.ListN.{length, take, drop, replicate, length-map}
use lib.Seq.{length-take-le}
use Rattle.algebra.specs.Integer.{residue}
use Rattle.algebra.proofs.Front.{InFront, stored}
use Rattle.algebra.proofs.List.{take-replicate}
use Rattle.split.proofs.ChallengeLaws.{twice_below, challenge_placed}
use Rattle.split.proofs.SetTable.{lent_count, order_size, order_below, order_places, placed_front}
use Rattle.split.proofs.SparseLaws.{coefficient_read}
use Rattle.split.proofs.challenge.challenge_values.Goals as goal

-- the sums stand in front, and with coefficient 0 added and reduced by the modulus m too
reduced : (n : ℕ) {a first : ℤ} {m q : ℕ} (sums : List ℤ) {out : List ℕ} (zeros : List ℤ) (rest : List ℕ) → length sums ≡ n → m ≡ q → a ≡ first
    → out ≡ map (λ (s : ℤ). residue (a +ℤ s) m) (take n (sums ++ zeros)) → InFront n (map (λ (s : ℤ). residue (first +ℤ s) q) sums) (out ++ rest)
reduced n {a} {first} {m} {q} sums zeros rest size same read is =
    let add = λ (b : ℤ) (k : ℕ). map (λ (s : ℤ). residue (b +ℤ s) k) in
    stored n rest (length-map sums (λ (s : ℤ). residue (first +ℤ s) q) ∙ size)
    (is ∙ ap (λ (b : ℤ). add b m (take n (sums ++ zeros))) read ∙ ap (λ (k : ℕ). add first k (take n (sums ++ zeros))) same
    ∙ ap (add first q) (stored n zeros size refl).front)

pub slice_bounds-order-end : goal.slice_bounds-order-end
slice_bounds-order-end c = sym (order_size c.args.ring.now c.requires.0)

pub powers_twice-twice-requires : goal.powers_twice-twice-requires
powers_twice-twice-requires c = let ring = c.args.ring.now in
    (omega (arith, order_size ring c.requires.0, ring.usable.fitting.size), order_below ring c.requires.0 _ (omega (arith, ring.size)))

pub sparse_sums-requires-clause-order_len_bound : goal.sparse_sums-requires-clause-order_len_bound
sparse_sums-requires-clause-order_len_bound c = let ring = c.args.ring.now in
    let size = order_size ring c.requires.0 in (
      omega (arith, size, ring.usable.fitting.size),
      length-take-le (2 * (ring.params.n - 1)) c.powers_twice-twice.result (omega (arith, ring.usable.fitting.size)) ∙ ap (λ (n : ℕ). 2 * n) (sym size),
    )

pub sparse_sums-requires-clause-small : goal.sparse_sums-requires-clause-small
sparse_sums-requires-clause-small c = let ring = c.args.ring.now in
    (c.requires.2, order_below ring c.requires.0 _ (omega (arith, c.requires.1)), twice_below ring c.requires.0 c.powers_twice-twice.ensures)

pub sparse_sums-requires-clause-sums_value : goal.sparse_sums-requires-clause-sums_value
sparse_sums-requires-clause-sums_value c = let ring = c.args.ring.now in
    take-replicate (ring.params.n - 1) 1153 (pos 0) (omega (arith, ring.usable.fitting.size))
    ∙ ap (λ (n : ℕ). replicate n (pos 0)) (sym (order_size ring c.requires.0))

pub place-requires : goal.place-requires
place-requires c = let ring = c.args.ring.now in
    let last = ring.params.n - 1 in
    let size = c.sparse_sums.auto.sums ∙ sym (lent_count ring c.requires.0 (pos 0)) in
    let read = coefficient_read c.args.c.now 0 c.requires.2 in
    let zeros = drop last (replicate 1153 (pos 0)) in
    let sums = reduced last c.sparse_sums.new.sums zeros (drop last c.powers_twice-twice.result) size c.of-reducer.ensures read c.reduce_sums.ensures in
    let values = sym (lent_count ring c.requires.0 0) in
    let order = sym (order_size ring c.requires.0) in
    (sym sums.count ∙ order, values ∙ order, order_places ring c.requires.0 values)

pub returns : goal.returns
returns c = let ring = c.args.ring.now in
    let last = ring.params.n - 1 in
    let size = c.sparse_sums.auto.sums ∙ sym (lent_count ring c.requires.0 (pos 0)) in
    let read = coefficient_read c.args.c.now 0 c.requires.2 in
    let zeros = drop last (replicate 1153 (pos 0)) in
    let sums = reduced last c.sparse_sums.new.sums zeros (drop last c.powers_twice-twice.result) size c.of-reducer.ensures read c.reduce_sums.ensures in
    challenge_placed ring c.requires.0 c.powers_twice-twice.ensures c.args.c.now c.requires.1 c.sparse_sums.ensures.each size
    (placed_front ring c.requires.0 (drop last (replicate 1153 0)) (c.place.ensures.size ∙ sym (lent_count ring c.requires.0 0))
    (rw sums.front at c.place.ensures.each))
