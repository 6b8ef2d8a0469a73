-- `read_front` meets its contract: no more came than the buffer has room for.
use Rattle.std.proofs.Common.{◌≡◌, ◌≤◌, length}
use Rattle.play.proofs.read_front.Given as goal

abbrev pub invariant-loop : goal.invariant-loop
invariant-loop l = (length l.file ≡ length l.initial.file) × (l.size ≤ length l.file)
