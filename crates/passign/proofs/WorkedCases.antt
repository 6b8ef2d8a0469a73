-- Every row of the table of document 01's worked cases holds: one test over the whole table, which antt computes.
-- Assumes nothing.
use mathlib.Core.List.{flatten}
use lib.Dec.{T}
use Rattle.algebra.specs.All.{all}
use Rattle.parameters.specs.Sets.{sets, set_of}
use Rattle.polynomial.specs.Evaluation.{evaluation, evaluation_residue, evaluations, evaluation_residues}
use Rattle.transform.specs.Generator.{generators, generator_of}
use Rattle.transform.specs.Convolution.{convolution}
use Rattle.challenge.specs.Pool.{commitment_bytes}
use Rattle.challenge.specs.Draw.{draw, kept, with_value, value_at, sign_at, placed}
use Rattle.encoding.specs.Bytes.{big_endian, encoded}
use Rattle.encoding.specs.Encoding.{signature_bytes}
use Rattle.signing.specs.Signer.{signature_of}
use Rattle.values.specs.Draw.{draw_refusal}
use Rattle.passign.specs.WorkedCases.{cases, holds}

pub worked_cases : T (all holds cases)
unfolding holds cases draw_refusal set_of sets generator_of generators convolution evaluations evaluation evaluation_residues evaluation_residue draw kept
    with_value value_at sign_at placed commitment_bytes signature_of signature_bytes encoded big_endian flatten
worked_cases = tt
