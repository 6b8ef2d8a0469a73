-- The bytes so far are tested.
use Rattle.std.proofs.Common.{◌≡◌, take}
use Rattle.encoding.specs.Encoding.{are_key_bytes}
use Rattle.encoding.proofs.secret_key.are_key_bytes.Given as goal

abbrev pub invariant-loop-byte : goal.invariant-loop-byte
invariant-loop-byte l = l.ok ≡ are_key_bytes (take l.byte-index l.bytes)
