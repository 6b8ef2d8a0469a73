-- The bytes of a secret key as coefficients, and an allowed key: it is ternary and has N coefficients.
-- Assumes nothing.
use mathlib.Core.Path.{◌≡◌, sym, ◌∙◌}
use mathlib.Core.Bool.{true, true≢false}
use mathlib.Core.List.{List}
use Prim.Native.Nat.{ℕ, ◌<◌}
use native.Mathlib.Omega.{arith}
use lib.Dec.{T, eqb, leb, le→leb}
use lib.IntN.{ℤ, nat_abs}
use lib.ListN.{length, drop, length-map, length-drop}
use borrow.Author.Tests.{eqb-true, eqb-false, ne_eqb}
use Rattle.algebra.proofs.All.{all-map}
use Rattle.algebra.proofs.Test.{true_holds, holds_true, by_test}
use Rattle.parameters.specs.declared.Params.{Params}
use Rattle.polynomial.specs.Polynomial.{ternary}
use Rattle.encoding.specs.Encoding.{secret_key_size, is_key_byte, key_coefficient, is_key, key_of}

-- a key's byte that is not 255 is 0 or 1
key_low : (x : ℕ) → is_key_byte x ≡ true → (x ≡ 255 → ⊥) → x < 2
key_low x t n =
    by_test (eqb x 0) (λ z. omega (arith, eqb-true x 0 z))
    (λ z. by_test (eqb x 1) (λ o. omega (arith, eqb-true x 1 o)) (λ o. absurd (true≢false (sym (rw (z, o, ne_eqb x 255 n) at t)))))

key_byte_lem : (x : ℕ) → T (is_key_byte x) → T (leb (nat_abs (key_coefficient x)) 1)
key_byte_lem x t =
    by_test (eqb x 255) (λ e. rw e tt) (λ e. rw e (le→leb x 1 (omega (arith, key_low x (holds_true (is_key_byte x) t) (eqb-false x 255 e)))))

pub key_ternary : (key : List ℕ) → is_key key ≡ true → T (ternary (key_of key))
unfolding is_key key_of
key_ternary key e = all-map key_coefficient is_key_byte (λ (z : ℤ). leb (nat_abs z) 1) key_byte_lem (drop 1 key) (true_holds e)

pub key_size : (p : Params) (key : List ℕ) → length key ≡ secret_key_size p → length (key_of key) ≡ p.n
unfolding key_of
key_size p key e = length-map (drop 1 key) key_coefficient ∙ length-drop 1 key ∙ omega arith
