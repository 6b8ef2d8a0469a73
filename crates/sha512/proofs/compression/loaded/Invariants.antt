-- `loaded` loads one word of the block a turn.
use Rattle.std.proofs.Common.{◌≡◌, length, take}
use Rattle.sha512.specs.Compression.{words}
use Rattle.sha512.proofs.compression.loaded.Given as goal

abbrev pub invariant-loop-t : goal.invariant-loop-t
invariant-loop-t l = (length l.w ≡ 80) × (take l.t l.w ≡ words l.t l.block)
