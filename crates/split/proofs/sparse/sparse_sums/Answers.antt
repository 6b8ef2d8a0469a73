-- `sparse_sums` meets its contract: the row of one coefficient a turn.
use mathlib.Core.Path.{◌≡◌, sym, ap₂, ◌∙◌}
use mathlib.Core.List.{map}
use Prim.Native.Nat.{ℕ, ◌+◌, ◌-◌, ◌^◌}
use native.Mathlib.Omega.{arith}
use lib.IntN.{ℤ, pos}
use lib.ListN.{length, get_or, drop, length-drop}
use lib.Seq.{length-take-le}
use Rattle.polynomial.specs.Polynomial.{add, scale}
use Rattle.split.proofs.SparseLaws.{coefficient_read, row_at, row_below, sums_within, sums_more}
use Rattle.split.proofs.sparse.sparse_sums.Goals as goal

pub add_multiple-requires-clause-row_len : goal.add_multiple-requires-clause-row_len
add_multiple-requires-clause-row_len c = let l = c.loop-m in
    let t = c.args.twice.now in
    let n = length c.args.order.now in
    let part : l.m + n - l.m ≡ n = omega arith in
    let row : length (row_at t l.m n) ≡ n = length-take-le n (drop l.m t) (omega (arith, length-drop l.m t, c.requires.order_len_bound.1)) in
    rw part (row ∙ sym l.invariant.size, sums_within l.invariant c.requires.order_len_bound.0, row_below (2 ^ 20) t l.m n c.requires.small.2)

pub loop-m-preserved : goal.loop-m-preserved
loop-m-preserved c = let l = c.loop-m in
    let n = length c.args.order.now in
    let at = get_or c.args.order.now l.m 0 in
    let part : l.m + n - l.m ≡ n = omega arith in
    let read = coefficient_read c.args.c.now at c.requires.small.0 in
    sums_more l.invariant c.loop-m-test.true
    (c.add_multiple.ensures ∙ ap₂ (λ (a : ℤ) (k : ℕ). add l.sums (scale a (map pos (row_at c.args.twice.now l.m k)))) read part)
    c.requires.small.0 c.requires.small.2 c.requires.order_len_bound.1

pub returns-clause-small : goal.returns-clause-small
returns-clause-small c = sums_within c.loop-m.invariant c.requires.order_len_bound.0
