-- `dot` meets its contract: each turn adds one product, below 2 ^ 52.
use mathlib.Core.Path.{◌≡◌}
use Prim.Native.Nat.{◌*◌, ◌^◌, ◌≤◌}
use lib.IntN.{pos}
use lib.ListN.{length}
use Rattle.transform.specs.Asks.{dot_at}
use Rattle.transform.proofs.convolution.dot.Given as goal

abbrev pub invariant-loop-i : goal.invariant-loop-i
invariant-loop-i l = (l.i ≤ length l.u) × (l.acc ≤ l.i * 2 ^ 52) × (pos l.acc ≡ dot_at l.u l.v l.k l.i)
