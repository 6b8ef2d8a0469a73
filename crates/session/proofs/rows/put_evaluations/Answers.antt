-- `put_evaluations` writes one evaluation a turn.
use mathlib.Core.Path.{refl}
use native.Mathlib.Omega.{arith}
use mir.Syntax.{w64}
use borrow.Author.Rules.{rules}
use Rattle.algebra.proofs.Signed.{reread}
use Rattle.text.specs.Text.{spaced_integers}
use Rattle.text.proofs.Appending.{appended_none}
use Rattle.session.proofs.RowText.{evaluations_more}
use Rattle.session.proofs.rows.put_evaluations.Goals as goal

pub loop-value-init : goal.loop-value-init
unfolding spaced_integers
loop-value-init c = (omega arith, refl, appended_none _ _)

pub loop-value-preserved : goal.loop-value-preserved
loop-value-preserved c =
    let e = c.centre.ensures.value in
    let text = rw (reread w64 c.centre.result c.centre.type_inv, e) at c.put_integer-next.ensures.text in
    (omega arith, search rules, evaluations_more _ _ _ c.loop-value-test.true c.loop-value.invariant.2 text)
