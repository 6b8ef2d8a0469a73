-- What the code hands on of a signature before it is written, and what the definitions give of it.
-- Assumes nothing.
use Rattle.std.specs.Prelude.{Some, None, List, ℕ, ℤ, take}
use Rattle.std.specs.declared.option.Option as std
use Rattle.std.proofs.Math.Option.{Option, none, some}
use Rattle.parameters.specs.declared.Params.{Params}
use Rattle.encoding.specs.declared.signature.Signature as encoding
use Rattle.encoding.specs.Challenge.{entries_of}
use Rattle.scheme.specs.Scheme.{Signature, Signed}
use Rattle.signing.specs.declared.Signed as found

-- the parts of a signature's bytes: its challenge's entries and z
abbrev pub Parts : Type 0
Parts = List ℕ × List ℤ

abbrev pub parts_of : Option Signature → Option Parts
parts_of none = none
parts_of (some r) = some (entries_of r.c, r.z)

abbrev pub parts_in : Params → std.Option encoding.Signature → Option Parts
parts_in p None = none
parts_in p (Some s) = some (take p.b s.entries, take p.n s.z)

-- the same with the number of masks passed over
abbrev pub found_of : Option Signed → Option (ℕ × Parts)
found_of none = none
found_of (some r) = some (r.passed_over, (entries_of r.signature.c, r.signature.z))

abbrev pub found_in : Params → std.Option found.Signed → Option (ℕ × Parts)
found_in p None = none
found_in p (Some s) = some (s.passed_over, (take p.b s.signature.entries, take p.n s.signature.z))
