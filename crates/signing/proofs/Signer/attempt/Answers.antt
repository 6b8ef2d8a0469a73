-- `Signer::attempt` meets its contract: a drawn challenge is sparse.
use mathlib.Core.Path.{sym, ap, ◌∙◌}
use Rattle.challenge.specs.Draw.{drawn_of}
use Rattle.challenge.proofs.Challenge.{challenge_sparse}
use Rattle.signing.proofs.Signer.attempt.Goals as goal

pub signature_in_range-requires-clause-challenge : goal.signature_in_range-requires-clause-challenge
signature_in_range-requires-clause-challenge c = let p = c.args.self.now.ring.now.params in
    challenge_sparse _ p _ _ _ (sym c.challenge_of.ensures ∙ ap (drawn_of p) c.in_ok-c.was)
