-- `Signer::first_passing` meets its contract: what all masks give is what those from number i on give.
use Rattle.std.proofs.Common.{◌≡◌}
use Rattle.challenge.specs.Draw.{draw_challenge}
use Rattle.challenge.specs.Rules.{rule_number}
use Rattle.signing.specs.Signer.{signed_by}
use Rattle.signing.proofs.Offers.{signed_from}
use Rattle.signing.proofs.Signer.first_passing.Given as goal

abbrev pub invariant-loop-i : goal.invariant-loop-i
invariant-loop-i l = let s = l.self in
    let p = s.ring.now.params in
    let draw = draw_challenge (rule_number s.rule) in
    signed_by draw p s.f.now s.exponents.now l.masks s.message.now ≡ signed_from draw p s.f.now s.exponents.now l.masks s.message.now l.i
