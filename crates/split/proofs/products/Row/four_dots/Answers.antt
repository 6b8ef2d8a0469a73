-- `four_dots` meets its contract: each turn adds two products to each sum.
use mathlib.Core.Path.{◌≡◌, ap, ◌∙◌}
use Prim.Native.Nat.{ℕ, ◌+◌, ◌*◌, ◌^◌}
use native.Mathlib.Omega.{arith}
use Rattle.algebra.proofs.All.{below_at}
use Rattle.split.proofs.ProductLaws.{total, total_none, summed_small, summed_two}
use Rattle.split.proofs.products.Row.four_dots.Goals as goal

pub loop-pair-init : goal.loop-pair-init
loop-pair-init c = let none = total_none c.args.self.now.block.now c.args.self.now.row.now in
    (none c.args.v, none (c.args.v + 1), none (c.args.v + 2), none (c.args.v + 3))

pub overflow_add-s0 : goal.overflow_add-s0
overflow_add-s0 c = let r = c.args.self.now in
    let small = summed_small r.block.now r.row.now r.block_below.0 r.row_below.0 c.args.v (2 * c.loop-pair.pair) c.loop-pair.invariant.0 (omega arith)
    r.block_below.1 (omega arith) in
    record { fits = omega (arith, small, c.two_products-s0.ensures.small) }

pub two_products-s1-requires : goal.two_products-s1-requires
two_products-s1-requires c = let r = c.args.self.now in
    let x = 2 * c.loop-pair.pair in
    let first = below_at (2 ^ 24) r.block.now r.block_below.0 x (omega arith) in
    let second = below_at (2 ^ 24) r.block.now r.block_below.0 (x + 1) (omega arith) in
    (omega (arith, first, c.from-f.ensures), omega (arith, second, c.from-g.ensures), omega arith, omega arith)

pub overflow_add-s1 : goal.overflow_add-s1
overflow_add-s1 c = let r = c.args.self.now in
    let small = summed_small r.block.now r.row.now r.block_below.0 r.row_below.0 (c.args.v + 1) (2 * c.loop-pair.pair) c.loop-pair.invariant.1 (omega arith)
    r.block_below.1 (omega arith) in
    record { fits = omega (arith, small, c.two_products-s1.ensures.small) }

pub two_products-s2-requires : goal.two_products-s2-requires
two_products-s2-requires c = let r = c.args.self.now in
    let x = 2 * c.loop-pair.pair in
    let first = below_at (2 ^ 24) r.block.now r.block_below.0 x (omega arith) in
    let second = below_at (2 ^ 24) r.block.now r.block_below.0 (x + 1) (omega arith) in
    (omega (arith, first, c.from-f.ensures), omega (arith, second, c.from-g.ensures), omega arith, omega arith)

pub overflow_add-s2 : goal.overflow_add-s2
overflow_add-s2 c = let r = c.args.self.now in
    let small = summed_small r.block.now r.row.now r.block_below.0 r.row_below.0 (c.args.v + 2) (2 * c.loop-pair.pair) c.loop-pair.invariant.2 (omega arith)
    r.block_below.1 (omega arith) in
    record { fits = omega (arith, small, c.two_products-s2.ensures.small) }

pub two_products-s3-requires : goal.two_products-s3-requires
two_products-s3-requires c = let r = c.args.self.now in
    let x = 2 * c.loop-pair.pair in
    let first = below_at (2 ^ 24) r.block.now r.block_below.0 x (omega arith) in
    let second = below_at (2 ^ 24) r.block.now r.block_below.0 (x + 1) (omega arith) in
    (omega (arith, first, c.from-f.ensures), omega (arith, second, c.from-g.ensures), omega arith, omega arith)

pub overflow_add-s3 : goal.overflow_add-s3
overflow_add-s3 c = let r = c.args.self.now in
    let small = summed_small r.block.now r.row.now r.block_below.0 r.row_below.0 (c.args.v + 3) (2 * c.loop-pair.pair) c.loop-pair.invariant.3 (omega arith)
    r.block_below.1 (omega arith) in
    record { fits = omega (arith, small, c.two_products-s3.ensures.small) }

pub loop-pair-preserved : goal.loop-pair-preserved
loop-pair-preserved c = let r = c.args.self.now in
    let v = c.args.v in
    let x = 2 * c.loop-pair.pair in
    let is = c.loop-pair.invariant in
    let more : x + 2 ≡ 2 * (c.loop-pair.pair + 1) = omega arith in
    let next = λ (w : ℕ). ap (total r.block.now r.row.now w) more in (
      summed_two r.block.now r.row.now v x is.0 c.from-f.ensures c.from-g.ensures c.two_products-s0.ensures.value (omega arith) ∙ next v,
      summed_two r.block.now r.row.now (v + 1) x is.1 c.from-f.ensures c.from-g.ensures c.two_products-s1.ensures.value (omega arith) ∙ next (v + 1),
      summed_two r.block.now r.row.now (v + 2) x is.2 c.from-f.ensures c.from-g.ensures c.two_products-s2.ensures.value (omega arith) ∙ next (v + 2),
      summed_two r.block.now r.row.now (v + 3) x is.3 c.from-f.ensures c.from-g.ensures c.two_products-s3.ensures.value (omega arith) ∙ next (v + 3),
    )
