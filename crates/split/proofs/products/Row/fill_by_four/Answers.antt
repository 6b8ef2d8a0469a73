-- `fill_by_four` meets its contract: four products a turn.
use mathlib.Core.Path.{◌≡◌, refl, ap, ◌∙◌}
use mathlib.Core.List.{map}
use Prim.Native.Nat.{ℕ, ◌+◌, ◌*◌}
use native.Mathlib.Omega.{arith}
use lib.Seq.{sets}
use Rattle.transform.specs.UpFrom.{up_from}
use Rattle.split.proofs.ProductLaws.{product, product_is, summed_small, four_more}
use Rattle.split.proofs.products.Row.fill_by_four.Goals as goal

pub fold-requires : goal.fold-requires
fold-requires c = let r = c.args.self.now in
    summed_small r.block.now r.row.now r.block_below.0 r.row_below.0 (4 * c.loop-turn.turn) _ c.four_dots-sums.ensures.0 (omega arith) r.block_below.1
    (omega arith)

pub fold-requires-in-loop-turn : goal.fold-requires-in-loop-turn
fold-requires-in-loop-turn c = let r = c.args.self.now in
    summed_small r.block.now r.row.now r.block_below.0 r.row_below.0 (4 * c.loop-turn.turn + 1) _ c.four_dots-sums.ensures.1 (omega arith) r.block_below.1
    (omega arith)

pub fold-requires-in-loop-turn-2 : goal.fold-requires-in-loop-turn-2
fold-requires-in-loop-turn-2 c = let r = c.args.self.now in
    summed_small r.block.now r.row.now r.block_below.0 r.row_below.0 (4 * c.loop-turn.turn + 2) _ c.four_dots-sums.ensures.2 (omega arith) r.block_below.1
    (omega arith)

pub fold-requires-in-loop-turn-3 : goal.fold-requires-in-loop-turn-3
fold-requires-in-loop-turn-3 c = let r = c.args.self.now in
    summed_small r.block.now r.row.now r.block_below.0 r.row_below.0 (4 * c.loop-turn.turn + 3) _ c.four_dots-sums.ensures.3 (omega arith) r.block_below.1
    (omega arith)

pub loop-turn-preserved : goal.loop-turn-preserved
loop-turn-preserved c = let r = c.args.self.now in
    let v = 4 * c.loop-turn.turn in
    let sums = c.four_dots-sums.ensures in
    let f = product c.args.reducer.q r.block.now r.row.now in
    let more : v + 4 ≡ 4 * (c.loop-turn.turn + 1) = omega arith in
    four_more f c.args.out.now v c.loop-turn.invariant
    (product_is c.args.reducer.q r.block.now r.row.now v c.fold.ensures.value sums.0 refl)
    (product_is c.args.reducer.q r.block.now r.row.now (v + 1) c.fold-in-loop-turn.ensures.value sums.1 refl)
    (product_is c.args.reducer.q r.block.now r.row.now (v + 2) c.fold-in-loop-turn-2.ensures.value sums.2 refl)
    (product_is c.args.reducer.q r.block.now r.row.now (v + 3) c.fold-in-loop-turn-3.ensures.value sums.3 refl)
    ∙ ap (λ (n : ℕ). sets c.args.out.now 0 (map f (up_from 0 n))) more
