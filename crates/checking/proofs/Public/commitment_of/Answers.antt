-- `Public::commitment_of` meets its contract: the evaluations of the challenge and of the point are what the differences ask.
use mathlib.Core.Path.{◌∙◌}
use Rattle.algebra.proofs.Front.{stored}
use Rattle.polynomial.proofs.EvaluationLaws.{length-evaluation_residues}
use Rattle.checking.proofs.Recovery.{recoverable}
use Rattle.checking.proofs.Public.commitment_of.Goals as goal

pub differences_of-requires : goal.differences_of-requires
differences_of-requires c = let s = c.args.self.now in
    let p = s.ring.now.params in
    let usable = s.ring.now.usable in
    let c-size = length-evaluation_residues p c.args.c.now s.exponents.now ∙ s.exponents_size in
    let z-size = length-evaluation_residues p c.args.z.now s.exponents.now ∙ s.exponents_size in
    recoverable p s.exponents.now s.evaluations.now _ _ c.args.c.now c.args.z.now usable.sound usable.fitting s.exponents_size s.evaluations_size s.evaluations_below
    (stored p.t _ c-size c.evaluate_challenge.ensures).front (stored p.t _ z-size c.evaluate_residues.ensures).front
