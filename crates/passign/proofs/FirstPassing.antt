-- An accepted signing is by the first mask that passes: `sign` answers that mask's number, which is the count of the masks before it, all of which
-- fail, and writes that mask's signature. It refuses with 9, no other refusal standing, exactly when no mask passes.
-- Assumes nothing.
use mathlib.Core.Path.{◌≡◌, refl, sym, ap, ◌∙◌}
use mathlib.Core.Bool.{Bool, true, false, not, cond}
use mathlib.Core.List.{List, []}
use mathlib.Core.Logic.Iff
use mathlib.Core.Logic.{◌↔◌}
use mathlib.Core.Option.{Option, none, some, none-ne-some}
use Prim.Native.Nat.{ℕ, ◌<◌}
use native.Mathlib.Omega.{arith}
use lib.Dec.{eqb}
use lib.IntN.{ℤ}
use lib.ListN.{length, get_or}
use Rattle.algebra.specs.Integer.{within}
use Rattle.parameters.specs.declared.Params.{Params}
use Rattle.parameters.specs.Sets.{is_set}
use Rattle.polynomial.specs.Evaluation.{evaluations}
use Rattle.challenge.specs.Draw.{draw_challenge}
use Rattle.challenge.specs.Pool.{is_rule}
use Rattle.encoding.specs.Encoding.{are_exponents, is_key, key_of}
use Rattle.scheme.specs.Scheme.{Drawer, Drawers, Signed, attempt}
use Rattle.scheme.proofs.FirstPassing.{first_passing_lem, none_passing, passed_over}
use Rattle.refusal.specs.Signing as answer
use Rattle.refusal.specs.Answer.{set_byte, set_in, is_long}
use Rattle.refusal.proofs.Apart.{refused_same, refused_not_signed}
use Rattle.refusal.proofs.Chain.{chosen, equal_iff}
use Rattle.signing.specs.Signer.{offered_count, masks_of, mask_at, signed_by, signed_bytes}
use Rattle.signing.specs.Sign.{sign_lengths, sign_refusal_in, sign_refusal, signed_answer, signing_after, written_after}
use Rattle.signing.specs.Sign.{sign_answer_in, sign_written_in, sign_answer, sign_written}
use Rattle.signing.proofs.OfferedMasks.{masks_count, mask_at_lem}
use Rattle.passign.specs.FirstPassing.{attempt_at, NonePassing, FirstSigning}

-- ---- no test of `sign` answers 9

other : (t : Bool) (m : ℕ) {x : ℕ} → (m ≡ 9 → ⊥) → (x ≡ 9 → ⊥) → cond t m x ≡ 9 → ⊥
other true m h l = h
other false m h l = l

refusal_other : (rule : ℕ) (p : Params) (key exponents : List ℕ) (masks : List ℤ) (room : ℕ) → sign_refusal_in rule p key exponents masks room ≡ 9 → ⊥
unfolding sign_refusal_in
refusal_other rule p key exponents masks room =
    other (not (sign_lengths p (length key) (length exponents) (length masks) room)) 1 (λ e. omega arith)
    (other (not (is_rule rule)) 18 (λ e. omega arith)
    (other (not (are_exponents p exponents)) 4 (λ e. omega arith)
    (other (not (is_key key)) 5 (λ e. omega arith) (other (not (within p.k masks)) 6 (λ e. omega arith) (λ e. omega arith)))))

entry_other : (rule : ℕ) (key exponents : List ℕ) (masks : List ℤ) (message out : List ℕ) → sign_refusal rule key exponents masks message out ≡ 9 → ⊥
unfolding sign_refusal
entry_other rule key exponents masks message out =
    other (is_long message) 1 (λ e. omega arith)
    (other (eqb (length key) 0) 1 (λ e. omega arith)
    (other (not (is_set (set_byte key))) 2 (λ e. omega arith) (refusal_other rule (set_in key) key exponents masks (length out))))

-- the answer is 9 where there is no signing
answer-none : (o : Option Signed) → (signed_answer o ≡ answer.Refused 9) ↔ (o ≡ none)
answer-none none = (λ e. refl, λ e. refl)
answer-none (some r) = (λ e. absurd (refused_not_signed (sym e)), λ e. absurd (none-ne-some r (sym e)))

module _ (draw : Drawer) (p : Params) (key exponents : List ℕ) (masks : List ℤ) (message : List ℕ) where
  abbrev signed : Option Signed
  signed = signed_by draw p (key_of key) exponents masks message

  -- mask number j, from the list of masks
  attempt_at_lem : (j : ℕ) → j < offered_count p masks
      → attempt draw p exponents message (key_of key) (get_or (masks_of p masks) j []) ≡ attempt_at draw p key exponents masks message j
  attempt_at_lem j h = ap (attempt draw p exponents message (key_of key)) (mask_at_lem p masks j h)

  none_iff : (signed ≡ none) ↔ NonePassing draw p key exponents masks message
  unfolding signed_by
  none_iff =
      let n = none_passing draw p exponents message (key_of key) (masks_of p masks) in
      let count = masks_count p masks in (
        λ e j h. sym (attempt_at_lem j h) ∙ n.0 e j (omega (arith, count)),
        λ a. n.1 (λ j h. let l : j < offered_count p masks = omega (arith, count) in attempt_at_lem j l ∙ a j l),
      )

  first_in : {written : List ℕ} {i : ℕ} (w : FirstSigning draw p key exponents masks message written i)
      → signed ≡ some (record { passed_over = i; commitment = evaluations p (mask_at p masks i) exponents; signature = w.signature })
  unfolding signed_by
  first_in {i = i} w =
      let m = w.first in
      (first_passing_lem draw p exponents message (key_of key) (masks_of p masks) _).1 (record {
        offered = omega (arith, m.offered, masks_count p masks);
        passes = attempt_at_lem i m.offered ∙ m.passes;
        commits = ap (λ (y : List ℤ). evaluations p y exponents) (mask_at_lem p masks i m.offered);
        earlier = λ j h. attempt_at_lem j (omega (arith, m.offered)) ∙ m.earlier j h;
      })

  module _ (out : List ℕ) where
    first_out : (o : Option Signed) {i : ℕ} → signed ≡ o → signed_answer o ≡ answer.Signed i
        → FirstSigning draw p key exponents masks message (signed_bytes (set_byte key) o out) i
    unfolding signed_by
    first_out none e a = absurd (refused_not_signed a)
    first_out (some r) {i} e a =
        let place : r.passed_over ≡ i = cc in
        let w = (first_passing_lem draw p exponents message (key_of key) (masks_of p masks) r).0 e in
        let l : r.passed_over < offered_count p masks = omega (arith, w.offered, masks_count p masks) in
        rw (← place) (record {
          signature = r.signature;
          first = record {
            offered = l;
            passes = sym (attempt_at_lem r.passed_over l) ∙ w.passes;
            earlier = λ j h. sym (attempt_at_lem j (omega arith)) ∙ w.earlier j h;
          };
          counts = passed_over draw p exponents message (key_of key) (masks_of p masks) r e;
          bytes = refl;
        })

    -- whatever number refuses
    module _ (refusal : ℕ) where
      first_after : (i : ℕ) → (signing_after refusal signed ≡ answer.Signed i)
          ↔ ((refusal ≡ 0) × FirstSigning draw p key exponents masks message (written_after refusal (set_byte key) signed out) i)
      first_after i = (
        λ e.
            let h = (chosen (eqb refusal 0) refused_not_signed Iff.rfl).0 e in
            (equal_iff.0 h.0, rw h.0 (first_out signed refl h.1)),
        λ h. rw h.0 (ap signed_answer (first_in h.1)),
      )

      none_after : (refusal ≡ 9 → ⊥) → (signing_after refusal signed ≡ answer.Refused 9) ↔ ((refusal ≡ 0) × NonePassing draw p key exponents masks message)
      none_after other =
          Iff.trans (chosen (eqb refusal 0) (λ e. other (refused_same e)) (Iff.trans (answer-none signed) none_iff)) (Iff.and equal_iff Iff.rfl)

-- a signing in any set, with any way to draw for each rule
module _ (draw : Drawers) (rule : ℕ) (p : Params) (key exponents : List ℕ) (masks : List ℤ) (message out : List ℕ) where
  abbrev refusal : ℕ
  refusal = sign_refusal_in rule p key exponents masks (length out)

  -- it is accepted by the first mask that passes
  pub first_signs : (i : ℕ) → (sign_answer_in draw rule p key exponents masks message out ≡ answer.Signed i)
      ↔ ((sign_refusal_in rule p key exponents masks (length out) ≡ 0)
      × FirstSigning (draw rule) p key exponents masks message (sign_written_in draw rule p key exponents masks message out) i)
  unfolding sign_answer_in sign_written_in
  first_signs = first_after (draw rule) p key exponents masks message out refusal

  -- and refused with 9 where none passes
  pub none_signs : (sign_answer_in draw rule p key exponents masks message out ≡ answer.Refused 9)
      ↔ ((sign_refusal_in rule p key exponents masks (length out) ≡ 0) × NonePassing (draw rule) p key exponents masks message)
  unfolding sign_answer_in
  none_signs = none_after (draw rule) p key exponents masks message out refusal (refusal_other rule p key exponents masks (length out))

-- the entry, in the set of the key's first byte, under its rule
module _ (rule : ℕ) (key exponents : List ℕ) (masks : List ℤ) (message out : List ℕ) where
  pub entry_first_signs : (i : ℕ) → (sign_answer rule key exponents masks message out ≡ answer.Signed i)
      ↔ ((sign_refusal rule key exponents masks message out ≡ 0)
      × FirstSigning (draw_challenge rule) (set_in key) key exponents masks message (sign_written rule key exponents masks message out) i)
  unfolding sign_answer sign_written
  entry_first_signs = first_after (draw_challenge rule) (set_in key) key exponents masks message out (sign_refusal rule key exponents masks message out)

  pub entry_none_signs : (sign_answer rule key exponents masks message out ≡ answer.Refused 9)
      ↔ ((sign_refusal rule key exponents masks message out ≡ 0) × NonePassing (draw_challenge rule) (set_in key) key exponents masks message)
  unfolding sign_answer
  entry_none_signs =
      none_after (draw_challenge rule) (set_in key) key exponents masks message out (sign_refusal rule key exponents masks message out)
      (entry_other rule key exponents masks message out)
