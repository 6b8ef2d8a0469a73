-- `challenge::draw_from` meets its contract. After m values the marks, the challenge and the count stand for the indices kept.
use mathlib.Core.Logic.{inl, inr}
use mathlib.Core.Path.{◌∙◌, ap}
use native.Mathlib.Omega.{arith}
use Rattle.challenge.specs.Draw.{drawn_of}
use Rattle.challenge.proofs.Kept.{held_none, held_above, held_taken, held_more, held_all, sign_stored}
use Rattle.challenge.proofs.draw_from.Goals.{then-v-limit+then-not-marks-index, then-v-limit+else-not-marks-index, else-v-limit, else-loop-m-test, then-loop-m-test+then-count-p}
use Rattle.challenge.proofs.draw_from.Goals as goal

pub loop-m-init : goal.loop-m-init
loop-m-init c = (omega arith, held_none _ _ c.requires.fitting.size)

pub loop-m-preserved : goal.loop-m-preserved
loop-m-preserved c = let p = c.args.p in
    let bytes = c.args.pool.now in
    let l = c.loop-m in
    let v = c.value_at-v in
    let h = l.invariant.1 in
    elim c.if-v-limit.branch [
      | then-v-limit+then-not-marks-index w ↦ rw (w.marks-is, w.challenge-is, w.count-is)
          (omega arith, held_more p bytes l.m h v.result v.ensures (omega arith) (omega arith) w.if-v-limit.true w.if-not-marks-index.true (sign_stored bytes l.count w.sign_at.ensures))
      | then-v-limit+else-not-marks-index w ↦ rw (w.marks-is, w.challenge-is, w.count-is)
          (l.invariant.0, held_taken p bytes l.m h v.result v.ensures w.if-v-limit.true w.if-not-marks-index.false)
      | else-v-limit w ↦ rw (w.marks-is, w.challenge-is, w.count-is) (l.invariant.0, held_above p bytes l.m h v.result v.ensures w.if-v-limit.false)
    ]

pub returns : goal.returns
returns c = let s = c.args in
    let l = c.loop-m in
    ap (drawn_of s.p) c.then_some.ensures
    ∙ held_all s.p s.pool.now l.m l.invariant.1 l.auto.m-end
    (elim c.loop-m-test.branch [ then-loop-m-test+then-count-p w ↦ inl (omega arith) | else-loop-m-test w ↦ inr w.loop-m-test.false ])
