-- `after_blocks` takes one block a turn.
use Rattle.std.proofs.Common.{◌≡◌}
use Rattle.sha512.specs.Digest.{chain}
use Rattle.sha512.proofs.after_blocks.Given as goal

abbrev pub invariant-loop-n : goal.invariant-loop-n
invariant-loop-n l = l.value ≡ chain l.initial.value l.n l.bytes
