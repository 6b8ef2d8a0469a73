-- `centre_all` meets its contract: one value a turn.
use mathlib.Core.Path.{refl, ◌∙◌}
use Prim.Native.Nat.{ℕ}
use native.Mathlib.Omega.{arith}
use lib.ListN.{length, get_or}
use mir.Syntax.{w32}
use Rattle.algebra.specs.Integer.{centre}
use Rattle.algebra.proofs.Filling.{filled_none, filled_all}
use Rattle.algebra.proofs.Signed.{reread}
use Rattle.transform.proofs.UpFrom.{filled_up, up_map-length}
use Rattle.split.proofs.reading.centre_all.Goals as goal

pub loop-i-init : goal.loop-i-init
loop-i-init c = filled_none (up_map-length _ 0 (length c.args.out.now)) refl

pub loop-i-preserved : goal.loop-i-preserved
loop-i-preserved c =
    filled_up (λ (k : ℕ). centre (get_or c.args.values.now k 0) c.args.q) (length c.args.out.now) c.loop-i.invariant (omega arith) (omega arith)
    (reread w32 c.centre_residue.result c.centre_residue.type_inv ∙ c.centre_residue.ensures)

pub returns : goal.returns
returns c = filled_all c.loop-i.invariant (omega arith) (omega arith)
