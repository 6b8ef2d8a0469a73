-- `challenge::low_bytes` meets its contract: the first W i bytes are those of the first i evaluations.
use Rattle.std.proofs.Common.{◌≡◌, ◌*◌, map, take}
use mathlib.Core.List.{flatten}
use Rattle.challenge.specs.Pool.{little_endian}
use Rattle.challenge.proofs.low_bytes.Given as goal

abbrev pub invariant-loop-i : goal.invariant-loop-i
invariant-loop-i g l = take (g.row.W * l.i) l.bytes ≡ flatten (map (little_endian g.row.W) (take l.i l.evaluations))
