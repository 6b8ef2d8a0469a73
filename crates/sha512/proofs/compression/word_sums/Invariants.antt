-- `word_sums` adds one pair of words a turn.
use Rattle.std.proofs.Common.{◌≡◌, length, take}
use Rattle.sha512.specs.Compression.{sums}
use Rattle.sha512.proofs.compression.word_sums.Given as goal

abbrev pub invariant-loop-i : goal.invariant-loop-i
invariant-loop-i l = (length l.r ≡ 8) × (take l.i l.r ≡ sums l.i l.s l.h)
