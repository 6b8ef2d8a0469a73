-- `Signer::signature_in_range` meets its contract: a point in range has 16 bits a coefficient.
use mathlib.Core.Path.{sym, ◌∙◌}
use Prim.Native.Nat.{◌-◌, ◌≤◌}
use native.Mathlib.Omega.{arith}
use Rattle.algebra.proofs.Front.{stored}
use Rattle.algebra.proofs.Test.{true_holds}
use Rattle.polynomial.proofs.Bound.{within_mono}
use Rattle.polynomial.proofs.Linear.{length_z}
use Rattle.signing.proofs.Signer.signature_in_range.Goals as goal

pub signature_of-requires-clause-z_len : goal.signature_of-requires-clause-z_len
signature_of-requires-clause-z_len c = let s = c.args.self.now in
    let p = s.ring.now.params in
    let small : p.k - p.b ≤ 32767 = omega (arith, s.ring.now.usable.fitting.mask) in
    let size = length_z s.f.now c.args.c.now c.args.y.now (omega (arith, s.ternary.size, c.requires.y_len)) ∙ c.requires.y_len in (
      sym (stored p.n _ size c.z_of.ensures).count,
      within_mono small _ (true_holds (sym c.in_range.ensures ∙ c.if-in_range.true)),
    )
