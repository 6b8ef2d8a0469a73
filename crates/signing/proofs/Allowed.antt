-- A signing is not refused, before its masks are tried, exactly when it has passed each of its tests.
-- Assumes nothing.
use mathlib.Core.Path.{◌≡◌}
use mathlib.Core.Bool.{true, ◌&&◌, and-eq-true_iff}
use mathlib.Core.List.{List}
use mathlib.Core.Logic.{◌↔◌}
use Prim.Native.Nat.{ℕ}
use lib.Dec.{eqb}
use lib.IntN.{ℤ}
use lib.ListN.{length}
use Rattle.algebra.specs.Integer.{within}
use Rattle.parameters.specs.declared.Params.{Params}
use Rattle.challenge.specs.Pool.{is_rule}
use Rattle.encoding.specs.Encoding.{secret_key_size, signature_size, is_key, are_exponents}
use Rattle.signing.specs.Sign.{are_masks, sign_lengths, sign_refusal_in}
use Rattle.refusal.proofs.Chain.{step, end, equal_iff}

module _ (rule : ℕ) (p : Params) (key exponents : List ℕ) (masks : List ℤ) (room : ℕ) where
  -- a signing is not refused before its masks are tried
  pub record SignAllowed : Type 0 where
    pub key_size : length key ≡ secret_key_size p
    pub exponents_size : length exponents ≡ p.t
    pub masks_size : are_masks p masks ≡ true
    pub room_size : room ≡ signature_size p
    pub rule_known : is_rule rule ≡ true
    pub exponents_rise : are_exponents p exponents ≡ true
    pub ternary : is_key key ≡ true
    pub small : within p.k masks ≡ true

  pub sign_allowed : (sign_refusal_in rule p key exponents masks room ≡ 0) ↔ SignAllowed
  unfolding sign_refusal_in
  sign_allowed =
      let tests = step (sign_lengths p (length key) (length exponents) (length masks) room) 0
      (step (is_rule rule) 17 (step (are_exponents p exponents) 3 (step (is_key key) 4 (step (within p.k masks) 5 end)))) in
      let sizes = and-eq-true_iff (eqb (length key) (secret_key_size p)) (eqb (length exponents) p.t && (are_masks p masks && eqb room (signature_size p))) in
      let others = and-eq-true_iff (eqb (length exponents) p.t) (are_masks p masks && eqb room (signature_size p)) in
      let last = and-eq-true_iff (are_masks p masks) (eqb room (signature_size p)) in (
        λ e.
            let h = tests.0 e in
            let l = sizes.0 h.0 in
            let m = others.0 l.1 in
            let n = last.0 m.1 in
            record {
              key_size = equal_iff.0 l.0;
              exponents_size = equal_iff.0 m.0;
              masks_size = n.0;
              room_size = equal_iff.0 n.1;
              rule_known = h.1.0;
              exponents_rise = h.1.1.0;
              ternary = h.1.1.1.0;
              small = h.1.1.1.1.0;
            },
        λ a. tests.1 (
          sizes.1 (equal_iff.1 a.key_size, others.1 (equal_iff.1 a.exponents_size, last.1 (a.masks_size, equal_iff.1 a.room_size))),
          (a.rule_known, (a.exponents_rise, (a.ternary, (a.small, tt)))),
        ),
      )
