-- Public evaluations worked out in front of an array: they are below q, and their signed form is what a row prints.
-- Assumes nothing.
use Rattle.std.proofs.Common.{◌≡◌, true, ℕ, List, ◌++◌, ℤ, length, take, map}
use mathlib.Core.Path.{◌∙◌}
use lib.Seq.{take_at}
use Rattle.algebra.specs.Integer.{centre}
use Rattle.algebra.proofs.Test.{holds_true}
use Rattle.parameters.specs.declared.Params.{Params}
use Rattle.parameters.specs.Sound.{Sound}
use Rattle.polynomial.specs.Evaluation.{evaluations, evaluation_residues}
use Rattle.polynomial.proofs.EvaluationLaws.{length-evaluation_residues, evaluation_residues_below}
use Rattle.polynomial.proofs.SignedForm.{centred_residues}
use Rattle.encoding.specs.Encoding.{are_evaluations}

module _ (p : Params) (f : List ℤ) (js rest : List ℕ) (size : length js ≡ p.t) where
  pub in_front : take p.t (evaluation_residues p f js ++ rest) ≡ evaluation_residues p f js
  in_front = take_at (evaluation_residues p f js) rest p.t (length-evaluation_residues p f js ∙ size)

  pub below : Sound p → are_evaluations p (take p.t (evaluation_residues p f js ++ rest)) ≡ true
  below sound = rw in_front (holds_true (are_evaluations p (evaluation_residues p f js)) (evaluation_residues_below sound f js))

  pub printed : map (λ (r : ℕ). centre r p.q) (take p.t (evaluation_residues p f js ++ rest)) ≡ evaluations p f js
  printed = rw in_front (centred_residues p f js)
