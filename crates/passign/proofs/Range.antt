-- Range: with a key and masks that `sign` does not refuse, the point z = f ⋆ c + y of every mask y and its challenge c is within k + b.
-- Assumes nothing.
use mathlib.Core.Path.{◌≡◌}
use mathlib.Core.List.{List}
use mathlib.Core.Option.{some}
use Prim.Native.Nat.{ℕ, ◌+◌}
use lib.Dec.{T}
use lib.IntN.{ℤ}
use lib.ListN.{length}
use Rattle.algebra.proofs.Test.{true_holds}
use Rattle.algebra.specs.Integer.{within}
use Rattle.parameters.specs.declared.Params.{Params}
use Rattle.polynomial.specs.Polynomial.{z_of}
use Rattle.polynomial.specs.Evaluation.{evaluation_residues}
use Rattle.polynomial.proofs.Sparse.{point_within}
use Rattle.challenge.specs.Draw.{draw_challenge}
use Rattle.challenge.proofs.Challenge.{challenge_sparse}
use Rattle.encoding.specs.Encoding.{key_of}
use Rattle.scheme.specs.Scheme.{Drawers, SparseDrawer}
use Rattle.signing.specs.Signer.{mask_at}
use Rattle.refusal.specs.Answer.{set_in}
use Rattle.signing.specs.Sign.{sign_refusal_in, sign_refusal}
use Rattle.signing.proofs.Allowed.{sign_allowed}
use Rattle.signing.proofs.Entry.{known_iff}
use Rattle.signing.proofs.Masks.{mask_small}
use Rattle.encoding.proofs.EncodedKey.{key_ternary}

-- in any set, with any way to draw sparse challenges
pub range : (draw : Drawers) (rule : ℕ) (p : Params) → SparseDrawer (draw rule) p
    → (key exponents : List ℕ) (masks : List ℤ) (message : List ℕ) (room : ℕ) → sign_refusal_in rule p key exponents masks room ≡ 0
    → (i : ℕ) (c : List ℤ) → draw rule p (evaluation_residues p (mask_at p masks i) exponents) message ≡ some c
    → T (within (p.k + p.b) (z_of (key_of key) c (mask_at p masks i)))
range draw rule p draws key exponents masks message room allowed i c e =
    let k = (sign_allowed rule p key exponents masks room).0 allowed in
    point_within (draws (evaluation_residues p (mask_at p masks i) exponents) message c e) p.k (key_of key) (mask_at p masks i)
    (key_ternary key k.ternary) (mask_small p masks (true_holds k.small) i)

-- the entry, in the five sets
pub entry_range : (rule : ℕ) (key exponents : List ℕ) (masks : List ℤ) (message out : List ℕ) → sign_refusal rule key exponents masks message out ≡ 0
    → (i : ℕ) (c : List ℤ) → draw_challenge rule (set_in key) (evaluation_residues (set_in key) (mask_at (set_in key) masks i) exponents) message ≡ some c
    → T (within ((set_in key).k + (set_in key).b) (z_of (key_of key) c (mask_at (set_in key) masks i)))
entry_range rule key exponents masks message out allowed =
    range draw_challenge rule (set_in key) (challenge_sparse rule (set_in key)) key exponents masks message (length out)
    ((known_iff rule key exponents masks message out).0 allowed).1
