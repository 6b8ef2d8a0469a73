-- `Signer::first_passing` meets its contract: a mask that passes signs, and else those after it decide.
use Rattle.challenge.specs.Draw.{draw_challenge}
use Rattle.challenge.specs.Rules.{rule_number}
use Rattle.signing.proofs.Offers.{signed_all, passed_here, failed_here}
use Rattle.signing.proofs.Signer.first_passing.Goals as goal

pub loop-i-init : goal.loop-i-init
loop-i-init c = let s = c.args.self.now in
    signed_all (draw_challenge (rule_number s.rule)) s.ring.now.params s.f.now s.exponents.now c.args.masks.now s.message.now

pub returns-in-Some-clause-parts : goal.returns-in-Some-clause-parts
returns-in-Some-clause-parts c = let s = c.args.self.now in
    let l = c.loop-i in
    passed_here (draw_challenge (rule_number s.rule)) s.ring.now.params s.f.now s.exponents.now c.args.masks.now s.message.now l.i c.loop-i-test.true l.invariant
    c.in-Some.ensures.parts

pub loop-i-preserved : goal.loop-i-preserved
loop-i-preserved c = let s = c.args.self.now in
    let l = c.loop-i in
    failed_here (draw_challenge (rule_number s.rule)) s.ring.now.params s.f.now s.exponents.now c.args.masks.now s.message.now l.i c.loop-i-test.true l.invariant
    c.in_default.ensures.parts
