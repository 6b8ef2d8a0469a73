-- `challenge::flat` meets its contract: the first i bytes are those of the digests one after the other.
use mathlib.Core.Path.{◌≡◌, sym, ap, ◌∙◌}
use Prim.Native.Nat.{ℕ, ◌*◌}
use native.Mathlib.Omega.{arith}
use borrow.Author.Rules.{rules}
use lib.ListN.{length}
use Rattle.algebra.proofs.Filling.{filled_none, filled_more, filled_all}
use Rattle.algebra.proofs.List.{flatten-length}
use Rattle.challenge.proofs.Digests.{pool_byte_at}
use Rattle.challenge.proofs.flat.Goals as goal

pub loop-i-init : goal.loop-i-init
loop-i-init c = let eight : length c.args.digests ≡ 8 = search rules in
    filled_none (flatten-length 64 c.args.digests c.requires ∙ ap (λ (n : ℕ). n * 64) eight) (search rules)

pub loop-i-preserved : goal.loop-i-preserved
loop-i-preserved c = let l = c.loop-i in
    let eight : length c.args.digests ≡ 8 = search rules in
    filled_more l.invariant 0 (omega arith) (omega arith) (sym (pool_byte_at c.args.digests l.i c.requires (omega arith)))

pub returns : goal.returns
returns c = filled_all c.loop-i.invariant (omega arith) (omega arith)
