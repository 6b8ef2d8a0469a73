-- `multiply` meets its contract: a row a turn.
use mathlib.Core.Path.{◌≡◌, ap, ◌∙◌}
use mathlib.Core.List.{List, ◌++◌}
use Prim.Native.Nat.{ℕ, ◌+◌, ◌-◌, ◌*◌, ◌≤◌}
use native.Mathlib.Omega.{arith}
use lib.ListN.{length, take, drop}
use lib.Seq.{drop-drop}
use Rattle.split_tables.specs.Split.{width}
use Rattle.split.proofs.ProductLaws.{block_room, row_asks, stored_size, under_more, products_more}
use Rattle.split.proofs.products.multiply.Goals as goal

span : (a b : ℕ) → a + b - a ≡ b
span a b = omega arith

pub invariant_of-row : goal.invariant_of-row
invariant_of-row c = let s = c.args.stages.now in
    let asks = row_asks s.staged c.requires.x_len.0 c.requires.x_len.2 c.loop-s-test.true in
    rw (span (c.loop-s.s * s.l) s.l, span (c.loop-s.s * width s.l) (width s.l)) record { block_below = asks.0; row_below = asks.1 }

pub loop-s-preserved : goal.loop-s-preserved
loop-s-preserved c = let s = c.args.stages.now in
    let set = s.staged in
    let l = c.loop-s in
    let size = c.requires.x_len.0 in
    let under = c.requires.x_len.2 in
    let at = l.s * s.l in
    let room : at + s.l ≤ length l.y = omega (arith, block_room s.l l.s (length s.twists.now) c.loop-s-test.true) in
    let numbers = rw (span at s.l, span (l.s * width s.l) (width s.l)) at c.fill.ensures in
    let written : take at l.y ++ (c.fill.new.out ++ drop s.l (drop at l.y)) ≡ take at l.y ++ (c.fill.new.out ++ drop (at + s.l) l.y) =
    ap (λ (rest : List ℕ). take at l.y ++ (c.fill.new.out ++ rest)) (drop-drop s.l at l.y ∙ ap (λ (k : ℕ). drop k l.y) (omega arith)) in
    rw (span at s.l) (
      stored_size set size under c.loop-s-test.true l.y room written numbers ∙ l.invariant.0,
      under_more set size under c.loop-s-test.true l.y room written numbers l.invariant.1,
      products_more set size under c.loop-s-test.true l.y room written numbers l.invariant.2,
    )
