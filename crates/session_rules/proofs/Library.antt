-- What a session holds is never refused by the library's signing but with 9, nor by its check but with 12; the check's verdict is the paper's rule.
-- Assumes nothing.
use mathlib.Core.Path.{◌≡◌, refl, sym, ap, ◌∙◌}
use mathlib.Core.Bool.{true, not, cond}
use mathlib.Core.List.{List, [], ◌∷◌, ◌++◌, flatten}
use mathlib.Core.Option.{Option, none, some}
use Prim.Native.Nat.{ℕ, zero, suc, ◌*◌, ◌/◌, ◌+◌, ◌<◌}
use native.Mathlib.Nat.{mul-mod_left, suc-mul, zero-mul, mul-le-mul_right, mul-div_cancel}
use native.Mathlib.Omega.{arith}
use lib.Dec.{T, leb, eqb, eqb→eq}
use lib.IntN.{ℤ, nat_abs}
use lib.ListN.{length, get_or, length-append, length-replicate}
use lib.Seq.{take_at, drop-drop, drop_at}
use borrow.Author.Tests.{eq-eqb, ne_eqb, le-leb, lt-ltb, le-ltb}
use Rattle.algebra.specs.All.{all}
use Rattle.algebra.proofs.All.{all-append}
use Rattle.algebra.proofs.Test.{and_left, and_right, and_intro, holds_true}
use Rattle.algebra.specs.Integer.{within}
use Rattle.parameters.specs.declared.Params.{Params}
use Rattle.parameters.specs.Sound.{Sound, Fitting}
use Rattle.parameters.proofs.Sound.{set_sound, set_fitting}
use Rattle.challenge.specs.Draw.{draw_challenge}
use Rattle.encoding.specs.Challenge.{are_entries}
use Rattle.encoding.specs.Encoding.{is_key, key_of, secret_key_size, public_key, signature_size, entries_in}
use Rattle.scheme.specs.Scheme.{Signed, verdict}
use Rattle.encoding.specs.Bytes.{parts}
use Rattle.signing.specs.Signer.{masks_of, mask_at, signed_by}
use Rattle.refusal.specs.Signing as signing
use Rattle.signing.specs.Sign.{are_masks, sign_refusal_in, sign_refusal, signed_answer, sign_answer}
use Rattle.checking.specs.Check.{body_read, check_refusal_of, verdict_after, answer_on, check_answer}
use Rattle.checking.proofs.Encoded.{encoded_answer}
use Rattle.refusal.proofs.Apart.{refused_same, refused_not_signed}
use Rattle.session_rules.specs.Held.{Chosen, HeldKey}
use Rattle.session_rules.specs.Commands.{signature_room}
use Rattle.session_rules.proofs.Kept.{TestedSet, TestedRule, is_mask, TestedExponents, TestedKey, TestedEvaluations, TestedMessage, TestedMasks}

-- ---- masks one after the other

module _ (p : Params) where
  -- the first mask, and those after it
  first_mask : (y : List ℤ) (ys : List (List ℤ)) → T (all (is_mask p) (y ∷ ys)) → (length y ≡ p.n) × (T (within p.k y) × T (all (is_mask p) ys))
  first_mask y ys t =
      let m = and_left (is_mask p y) (all (is_mask p) ys) t in (
        eqb→eq (length y) p.n (and_left (eqb (length y) p.n) (within p.k y) m),
        (and_right (eqb (length y) p.n) (within p.k y) m, and_right (is_mask p y) (all (is_mask p) ys) t),
      )

  flattened_size : (ys : List (List ℤ)) → T (all (is_mask p) ys) → length (flatten ys) ≡ length ys * p.n
  unfolding flatten
  flattened_size [] t = omega (arith, zero-mul p.n)
  flattened_size (y ∷ ys) t =
      let (size, (small, rest)) = first_mask y ys t in
      omega (arith, length-append y (flatten ys), flattened_size ys rest, suc-mul (length ys) p.n)

  flattened_within : (ys : List (List ℤ)) → T (all (is_mask p) ys) → T (within p.k (flatten ys))
  unfolding flatten
  flattened_within [] t = tt
  flattened_within (y ∷ ys) t =
      let (size, (small, rest)) = first_mask y ys t in
      rw (all-append (λ (a : ℤ). leb (nat_abs a) p.k) y (flatten ys))
      (and_intro (within p.k y) (within p.k (flatten ys)) small (flattened_within ys rest))

  -- mask number i
  pub mask_of_flattened : (ys : List (List ℤ)) (i : ℕ) → T (all (is_mask p) ys) → i < length ys → mask_at p (flatten ys) i ≡ get_or ys i []
  unfolding flatten
  mask_of_flattened [] i t h = absurd (omega arith)
  mask_of_flattened (y ∷ ys) zero t h = rw (zero-mul p.n) (take_at y (flatten ys) p.n (first_mask y ys t).0)
  mask_of_flattened (y ∷ ys) (suc i) t h =
      let (size, (small, rest)) = first_mask y ys t in
      let e : suc i * p.n ≡ p.n + i * p.n = omega (arith, suc-mul i p.n) in
      rw (e, ← drop-drop (i * p.n) p.n (y ++ flatten ys), drop_at y (flatten ys) p.n size) (mask_of_flattened ys i rest (omega arith))

  parts_back : (ys : List (List ℤ)) → T (all (is_mask p) ys) → parts p.n (length ys) (flatten ys) ≡ ys
  unfolding flatten
  parts_back [] t = refl
  parts_back (y ∷ ys) t =
      let (size, (small, rest)) = first_mask y ys t in
      rw (take_at y (flatten ys) p.n size, drop_at y (flatten ys) p.n size) (ap (λ (l : List (List ℤ)). y ∷ l) (parts_back ys rest))

  -- the masks of a call are those that were joined
  pub masks_back : 0 < p.n → (ys : List (List ℤ)) → T (all (is_mask p) ys) → masks_of p (flatten ys) ≡ ys
  masks_back positive ys t =
      ap (λ (count : ℕ). parts p.n count (flatten ys)) (ap (λ (l : ℕ). l / p.n) (flattened_size ys t) ∙ mul-div_cancel (length ys) positive)
      ∙ parts_back ys t

  masks_flattened : {ys : List (List ℤ)} → TestedMasks p ys → are_masks p (flatten ys) ≡ true
  masks_flattened {ys} t =
      let l = flattened_size ys t.each in
      rw (l, mul-mod_left (length ys) p.n) (le-leb (length ys * p.n) (8 * p.n) (mul-le-mul_right p.n t.few))

-- ---- in a known set

signed_or_nine : (o : Option Signed) (n : ℕ) → signed_answer o ≡ signing.Refused n → n ≡ 9
signed_or_nine none n e = sym (refused_same e)
signed_or_nine (some r) n e = absurd (refused_not_signed (sym e))

module _ {c : Chosen} (s : TestedSet c) where
  abbrev p : Params
  p = c.params

  pub sound : Sound p
  sound = rw s.own (set_sound c.byte s.known)

  pub fitting : Fitting p
  fitting = rw s.own (set_fitting c.byte s.known)

  module _ {rule : ℕ} {key : HeldKey} {exponents : List ℕ} {masks : List (List ℤ)} {message : List ℕ} (r : TestedRule rule)
      (k : TestedKey p key) (j : TestedExponents p exponents) (t : TestedMasks p masks) (m : TestedMessage message) where
    pub sign_refused : (n : ℕ) → sign_answer rule (c.byte ∷ key.bytes) exponents (flatten masks) message (signature_room p) ≡ signing.Refused n → n ≡ 9
    unfolding sign_answer sign_refusal sign_refusal_in is_key
    sign_refused n e =
        signed_or_nine (signed_by (draw_challenge rule) p (key_of (c.byte ∷ key.bytes)) exponents (flatten masks) message) n
        (rw (
          le-ltb 65535 (length message) (omega arith),
          ne_eqb (length (c.byte ∷ key.bytes)) 0 (λ e. omega arith),
          lt-ltb c.byte 5 s.known,
          ← s.own,
          eq-eqb (suc (length key.bytes)) (secret_key_size p) (omega (arith, k.size)),
          eq-eqb (length exponents) p.t j.size,
          masks_flattened p t,
          eq-eqb (length (signature_room p)) (signature_size p) (length-replicate (signature_size p) 0),
          r.known,
          j.rise,
          k.bytes,
          holds_true (within p.k (flatten masks)) (flattened_within p masks t.each),
        ) at e)

  -- ---- the check

  module _ {rule : ℕ} {exponents vs message : List ℕ} (r : TestedRule rule) (j : TestedExponents p exponents) (v : TestedEvaluations p vs)
      (m : TestedMessage message) (op : List ℕ) (size : length op ≡ 2 * p.b + 2 * p.n) where
    -- it answers by the test of the entries and by the paper's rule
    pub check_by_rule : check_answer rule (public_key c.byte exponents vs) message (c.byte ∷ op)
        ≡ verdict_after (cond (not (are_entries p.n (entries_in p op))) 12 0) (verdict (draw_challenge rule) p exponents message vs (body_read p op))
    unfolding answer_on check_refusal_of
    check_by_rule =
        let known = lt-ltb c.byte 5 s.known in
        let asked = rw (← s.own) at (encoded_answer c.byte exponents vs message op known (omega arith)) in
        rw (r.known, j.rise, v.below) at (asked j.size j.rise v.size v.below size rule)
