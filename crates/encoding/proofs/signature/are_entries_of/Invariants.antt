-- What the entries so far show, and what is left to test.
use Rattle.std.proofs.Common.{◌≡◌, ◌&&◌, drop, map}
use Rattle.encoding.specs.Bytes.{increasing}
use Rattle.encoding.specs.Challenge.{index_of, are_entries}
use Rattle.encoding.proofs.signature.are_entries_of.Given as goal

abbrev pub invariant-loop-entry : goal.invariant-loop-entry
invariant-loop-entry l = (l.ok && increasing l.n l.from (map index_of (drop l.entry-index l.entries))) ≡ are_entries l.n l.entries
