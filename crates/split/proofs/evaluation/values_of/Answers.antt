-- `values_of` meets its contract: the stages give the sums, and the sums the evaluations.
use mathlib.Core.Path.{◌≡◌, refl, sym, ap, ◌∙◌}
use mathlib.Core.List.{List, ◌++◌, map}
use Prim.Native.Nat.{ℕ, ◌+◌, ◌-◌, ◌%◌, ◌<◌}
use native.Mathlib.Omega.{arith}
use lib.IntN.{ℤ}
use lib.ListN.{length, get_or, take, drop, replicate, length-map}
use lib.Seq.{get_or-take, length-take-le}
use Rattle.algebra.specs.Integer.{residue}
use Rattle.algebra.proofs.Front.{InFront, stored}
use Rattle.polynomial.specs.Polynomial.{coefficient}
use Rattle.split.proofs.SetTable.{tables, several, modulus, lent_count, order_size, order_places, placed_front}
use Rattle.split.proofs.ValueLaws.{lifted_at, lifted_below, split_values}
use Rattle.split.proofs.evaluation.values_of.Goals as goal

-- the reduced coefficients stand in front of other numbers, the first of them first
module _ (n q : ℕ) (f : List ℤ) {out : List ℕ} (rest : List ℕ) (size : length f ≡ n) (is : out ≡ map (λ (a : ℤ). residue a q) f) where
  held : InFront n (map (λ (a : ℤ). residue a q) f) (out ++ rest)
  held = stored n rest (length-map f (λ (a : ℤ). residue a q) ∙ size) is

  first_is : 1 < n → get_or (out ++ rest) 0 0 ≡ residue (coefficient f 0) q
  first_is several =
      sym (get_or-take n (out ++ rest) 0 0 (omega arith)) ∙ ap (λ (l : List ℕ). get_or l 0 0) held.front ∙ lifted_at q f 0 (omega arith)

-- so do the sums with the first coefficient added, by the modulus m
reduced : (n first : ℕ) {m q : ℕ} (sums : List ℕ) {out : List ℕ} (zeros rest : List ℕ) → length sums ≡ n → m ≡ q
    → out ≡ map (λ (s : ℕ). (first + s) % m) (take n (sums ++ zeros)) → InFront n (map (λ (s : ℕ). (first + s) % q) sums) (out ++ rest)
reduced n first {m} {q} sums zeros rest size same is =
    let add = λ (k : ℕ). map (λ (s : ℕ). (first + s) % k) in
    stored n rest (length-map sums (λ (s : ℕ). (first + s) % q) ∙ size)
    (is ∙ ap (λ (k : ℕ). add k (take n (sums ++ zeros))) same ∙ ap (add q) (stored n zeros size refl).front)

pub slice_bounds-order-end : goal.slice_bounds-order-end
slice_bounds-order-end c = sym (order_size c.args.ring.now c.requires.0)

pub split_sums-requires-clause-lifted_len : goal.split_sums-requires-clause-lifted_len
split_sums-requires-clause-lifted_len c = let ring = c.args.ring.now in
    let held = held ring.params.n ring.params.q c.args.f.now (drop ring.params.n (replicate 1153 0)) c.requires.1 c.lift_all.ensures in (
      sym held.count,
      rw held.front (lifted_below (omega (arith, (modulus ring c.requires.0).from)) c.args.f.now),
      sym (lent_count ring c.requires.0 0),
    )

pub place-requires : goal.place-requires
place-requires c = let ring = c.args.ring.now in
    let last = ring.params.n - 1 in
    let zeros = drop last (replicate {A = ℕ} 1153 0) in
    let values = c.lift_all.new.out ++ drop ring.params.n (replicate {A = ℕ} 1153 0) in
    let found = c.split_sums.new.y in
    let size = c.split_sums.ensures.size ∙ sym (lent_count ring c.requires.0 0) in
    let sums = reduced last (get_or values 0 0) found zeros (drop last (found ++ zeros)) size c.of-reducer.ensures c.reduce_all.ensures in
    let held = held ring.params.n ring.params.q c.args.f.now (drop ring.params.n (replicate 1153 0)) c.requires.1 c.lift_all.ensures in
    let count : length (take last values) ≡ last = length-take-le last values (omega (arith, held.room)) in
    let order = sym (order_size ring c.requires.0) in
    (sym sums.count ∙ order, count ∙ order, order_places ring c.requires.0 count)

pub returns : goal.returns
returns c = let ring = c.args.ring.now in
    let last = ring.params.n - 1 in
    let zeros = drop last (replicate {A = ℕ} 1153 0) in
    let values = c.lift_all.new.out ++ drop ring.params.n (replicate {A = ℕ} 1153 0) in
    let found = c.split_sums.new.y in
    let size = c.split_sums.ensures.size ∙ sym (lent_count ring c.requires.0 0) in
    let sums = reduced last (get_or values 0 0) found zeros (drop last (found ++ zeros)) size c.of-reducer.ensures c.reduce_all.ensures in
    let held = held ring.params.n ring.params.q c.args.f.now (drop ring.params.n (replicate 1153 0)) c.requires.1 c.lift_all.ensures in
    let count : length (take last values) ≡ last = length-take-le last values (omega (arith, held.room)) in
    let several = several ring c.requires.0 in
    split_values ring.usable several (tables ring c.requires.0) c.args.f.now c.requires.1 (rw held.front at c.split_sums.ensures.stages.stages)
    (first_is ring.params.n ring.params.q c.args.f.now (drop ring.params.n (replicate 1153 0)) c.requires.1 c.lift_all.ensures several) size
    (placed_front ring c.requires.0 (drop last values) (c.place.ensures.size ∙ count) (rw sums.front at c.place.ensures.each))
