-- `put_hex` writes one byte a turn.
use Rattle.std.proofs.Common.{◌≡◌, ◌+◌, ◌*◌, ◌≤◌, length, take}
use Rattle.text.specs.Text.{hex, Appended}
use Rattle.text.proofs.put_hex.Given as goal

abbrev pub invariant-loop-byte : goal.invariant-loop-byte
invariant-loop-byte l = record {
  room : l.next ≤ l.at + 2 * l.byte-index;
  size : length l.out ≡ length l.initial.out;
  text : Appended l.initial.out l.at (hex (take l.byte-index l.bytes)) l.out l.next;
}
