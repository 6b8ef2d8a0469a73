-- `check_in` meets its contract: the challenge of entries that passed their test is sparse.
use mathlib.Core.Path.{◌≡◌, sym, subst, ap, ◌∙◌}
use mathlib.Core.Bool.{true}
use borrow.Author.Rules.{rules}
use Rattle.algebra.proofs.Test.{true_holds}
use Rattle.polynomial.specs.Sparse.{Sparse}
use Rattle.encoding.specs.Challenge.{are_entries, challenge_of}
use Rattle.encoding.specs.Encoding.{entries_in}
use Rattle.encoding.proofs.ReadChallenge.{body_sparse}
use Rattle.checking.proofs.check_in.Goals as goal

pub accepts-requires-clause-challenge : goal.accepts-requires-clause-challenge
accepts-requires-clause-challenge c = let p = c.args.ring.now.params in
    let entries : c.entries-entries.result.now ≡ entries_in p c.args.signature.now = cc in
    let passed : are_entries p.n c.entries-entries.result.now ≡ true = search rules in
    subst (Sparse p) (sym (c.challenge_with-c.ensures ∙ ap (challenge_of p.n) entries)) (body_sparse p c.args.signature.now (true_holds (sym (ap (are_entries p.n) entries) ∙ passed)))
