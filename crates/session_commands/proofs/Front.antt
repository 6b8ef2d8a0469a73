-- A list that stands in front of an array.
-- Assumes nothing.
use Rattle.std.proofs.Common.{◌≡◌, true, ℕ, List, ◌++◌, length, take}
use lib.Seq.{take_at}
use Rattle.parameters.specs.declared.Params.{Params}
use Rattle.encoding.specs.Encoding.{are_evaluations}

pub front_below : (p : Params) (out rest : List ℕ) → length out ≡ p.t → are_evaluations p out ≡ true → are_evaluations p (take p.t (out ++ rest)) ≡ true
front_below p out rest size test = rw (take_at out rest p.t size) test
