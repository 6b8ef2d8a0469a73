-- The check of a public key and a signature in their encodings, in one set, is the check on the lists that the public key was written from.
-- Assumes nothing.
use mathlib.Core.Path.{◌≡◌, refl, ap₂, ◌∙◌}
use mathlib.Core.Bool.{true}
use mathlib.Core.List.{List, ◌∷◌}
use Prim.Native.Nat.{ℕ, ◌+◌, ◌*◌, ◌≤◌}
use native.Mathlib.Omega.{arith}
use lib.ListN.{length}
use borrow.Author.Tests.{ltb-true, le-ltb, eq-eqb, ne_eqb}
use Rattle.parameters.specs.Limits.{max_message}
use Rattle.parameters.specs.Sets.{is_set, set_of}
use Rattle.parameters.proofs.Sound.{set_fitting}
use Rattle.challenge.specs.Draw.{draw_challenge}
use Rattle.encoding.specs.Encoding.{public_key_size, signature_size, are_exponents, are_evaluations, public_key, PublicKeyRange}
use Rattle.encoding.proofs.OneEncoding.{exponents_read_back, evaluations_read_back, public_key-length}
use Rattle.encoding.proofs.Range.{public_key_range}
use Rattle.checking.specs.Check.{answer_on, check_answer}
use Rattle.checking.proofs.Guard.{Guarded, guarded_answer}

module _ (set : ℕ) (js vs message body : List ℕ) (known : is_set set ≡ true) (short : length message ≤ max_message)
    (exponents-size : length js ≡ (set_of set).t) (rise : are_exponents (set_of set) js ≡ true)
    (evaluations-size : length vs ≡ (set_of set).t) (below : are_evaluations (set_of set) vs ≡ true)
    (body-size : length body ≡ 2 * (set_of set).b + 2 * (set_of set).n) where
  range : PublicKeyRange (set_of set) js vs
  range = public_key_range (set_fitting set (ltb-true set 5 known)) js vs exponents-size rise evaluations-size below

  -- no guard refuses
  encoded_guarded : Guarded (public_key set js vs) message (set ∷ body)
  unfolding public_key
  encoded_guarded =
      let p = set_of set in
      let size = public_key-length p set js vs range in
      let signature-size : length (set ∷ body) ≡ signature_size p = omega (arith, body-size) in
      record {
        sizes = rw (le-ltb max_message (length message) short, ne_eqb (length (set ∷ body)) 0 (λ e. omega arith));
        has_set = record { some = ne_eqb (length (public_key set js vs)) 0 (λ e. omega (arith, size)); set = known };
        same_set = eq-eqb set set refl;
        lengths = rw (eq-eqb (length (public_key set js vs)) (public_key_size p) size, eq-eqb (length (set ∷ body)) (signature_size p) signature-size);
      }

  pub encoded_answer : (rule : ℕ) → check_answer rule (public_key set js vs) message (set ∷ body) ≡ answer_on draw_challenge rule (set_of set) js vs message body
  unfolding public_key
  encoded_answer rule =
      guarded_answer (public_key set js vs) message (set ∷ body) encoded_guarded rule
      ∙ ap₂ (λ (x y : List ℕ). answer_on draw_challenge rule (set_of set) x y message body) (exponents_read_back (set_of set) set js vs range)
      (evaluations_read_back (set_of set) set js vs range)
