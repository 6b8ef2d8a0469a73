-- `play_each` meets its contract: the laws of Whole.antt, at each play.
use mathlib.Core.Path.{sym, ap, ◌∙◌}
use borrow.Author.Rules.{rules}
use Prim.Native.Nat.{ℕ}
use lib.ListN.{take}
use Rattle.std.proofs.Common.{of_calls}
use Rattle.session.proofs.Whole.{handed_none, handed_more, handed_whole, fewer}
use Rattle.session.proofs.play_each.Goals as goal

pub loop-rows-init : goal.loop-rows-init
loop-rows-init g c = (search rules, rw c.open-session.ensures (handed_none _ _ _), c.requires)

pub loop-rows-smaller : goal.loop-rows-smaller
loop-rows-smaller g c = fewer _ _ _ _ _ _ c.loop-rows.invariant.0 c.play.ensures.outcome (sym c.wrote_row.ensures ∙ c.loop-rows-test.true)

pub loop-rows-preserved : goal.loop-rows-preserved
loop-rows-preserved g c = let l = c.loop-rows in (
  search rules,
  handed_more _ _ _ _ _ _ _ _ l.invariant.0 c.play.ensures.outcome l.invariant.1 (sym c.wrote_row.ensures ∙ c.loop-rows-test.true)
      record { shown = _; shows = ap (λ (n : ℕ). take n c.play.new.rows) c.row_size.ensures.value; called = c.each.ensures },
  search of_calls,
)

pub returns : goal.returns
returns g c = let l = c.loop-rows in
    handed_whole _ _ _ _ _ _ _ _ l.invariant.0 c.play.ensures.outcome l.invariant.1 (sym c.wrote_row.ensures ∙ c.loop-rows-test.false)
