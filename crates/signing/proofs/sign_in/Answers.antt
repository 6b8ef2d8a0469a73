-- `sign_in` meets its contract: a key whose bytes passed their test is ternary.
use mathlib.Core.Path.{◌≡◌, sym, subst}
use mathlib.Core.Bool.{true}
use mathlib.Core.List.{List, ◌∷◌}
use lib.Dec.{T}
use lib.IntN.{ℤ}
use borrow.Author.Rules.{rules}
use Rattle.algebra.proofs.Front.{in_front}
use Rattle.polynomial.specs.Polynomial.{ternary}
use Rattle.encoding.specs.Encoding.{are_key_bytes, is_key, key_of}
use Rattle.encoding.proofs.EncodedKey.{key_ternary}
use Rattle.signing.proofs.sign_in.Goals as goal

pub invariant_of-signer-clause-ternary : goal.invariant_of-signer-clause-ternary
unfolding is_key key_of
invariant_of-signer-clause-ternary c = let p = c.args.ring.now.params in
    let passed : are_key_bytes c.args.key.now ≡ true = search rules in
    record {
      size = sym (in_front p.n c.decode_secret_key-f.result (search rules)).count;
      small = subst (λ (l : List ℤ). T (ternary l)) (sym c.decode_secret_key-f.ensures) (key_ternary (c.args.set ∷ c.args.key.now) passed);
    }
