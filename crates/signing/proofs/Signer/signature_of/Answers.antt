-- `Signer::signature_of` meets its contract: a challenge has b entries.
use mathlib.Core.Path.{sym, ◌∙◌}
use Prim.Native.Nat.{ℕ}
use lib.ListN.{replicate}
use borrow.Author.Rules.{rules}
use Rattle.algebra.proofs.Front.{in_front}
use Rattle.encoding.proofs.EntryCount.{length_entries}
use Rattle.signing.proofs.Signer.signature_of.Goals as goal

pub write_entries-requires-clause-entries_len : goal.write_entries-requires-clause-entries_len
write_entries-requires-clause-entries_len c =
    sym (in_front c.args.self.now.ring.now.params.b (replicate {A = ℕ} 64 0) (search rules)).count ∙ sym (length_entries 0 c.args.c.now ∙ c.requires.challenge.exact)
