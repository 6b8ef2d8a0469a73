-- The numbers so far are narrowed.
use Rattle.std.proofs.Common.{◌≡◌, take}
use Rattle.encoding.proofs.numbers.narrow.Given as goal

abbrev pub invariant-loop-i : goal.invariant-loop-i
invariant-loop-i l = take l.i l.to ≡ take l.i l.from
