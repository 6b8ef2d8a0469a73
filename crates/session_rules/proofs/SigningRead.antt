-- One 06, with what is read from the commands before it: the library's signing with the masks one after the other is the scheme's with the masks read.
-- Assumes nothing.
use mathlib.Core.Path.{◌≡◌, sym, ap, ◌∙◌}
use mathlib.Core.List.{List, ◌∷◌, flatten}
use mathlib.Core.Option.{Option, some}
use Prim.Native.Nat.{ℕ}
use native.Mathlib.Omega.{arith}
use lib.ListN.{length, drop}
use Rattle.parameters.specs.declared.Params.{Params}
use Rattle.parameters.specs.Sets.{set_of}
use Rattle.challenge.specs.Draw.{draw_challenge}
use Rattle.encoding.specs.Encoding.{key_in, key_of}
use Rattle.scheme.specs.Scheme.{Signed, signing}
use Rattle.refusal.specs.Signing as answer
use Rattle.scheme.proofs.FirstPassing.{first_passing_lem}
use Rattle.signing.specs.Signer.{masks_of, signature_of, signed_by}
use Rattle.signing.specs.Sign.{sign_refusal, written_after, sign_answer, sign_written}
use Rattle.signing.proofs.AcceptedSigning.{accepted}
use Rattle.signing.proofs.OfferedMasks.{masks_count}
use Rattle.refusal.proofs.Chain.{equal_iff}
use Rattle.passign.proofs.FirstPassing.{entry_none_signs}
use Rattle.session_rules.specs.Commands.{signature_room}
use Rattle.session_rules.specs.Play.{Session, step, row_of}
use Rattle.session_rules.specs.Plays.{Material, params_in, first_passing, with_accepted, with_command}
use Rattle.session_rules.specs.HeldIsRead.{Available}
use Rattle.session_rules.specs.FirstPassing.{FirstOfRead, NoneOfRead, SignsByFirst}
use Rattle.session_rules.proofs.Kept.{TestedSet, TestedMasks, KeptAll}
use Rattle.session_rules.proofs.Library.{fitting, masks_back, mask_of_flattened}
use Rattle.session_rules.proofs.CommandFacts.{answer_with, bytes_with}
use Rattle.session_rules.proofs.Reaching.{step_facts, row_event}

-- what an accepted signing writes
written_by : (refusal set : ℕ) {o : Option Signed} {r : Signed} (out : List ℕ) → refusal ≡ 0 → o ≡ some r
    → written_after refusal set o out ≡ signature_of set r.signature
written_by refusal set out allowed signs = rw (equal_iff.1 allowed, signs)

module _ (m : Material) (t : TestedMasks (params_in m) m.masks) (s : TestedSet m.set) where
  abbrev p : Params
  p = params_in m

  -- the masks of the call are those read
  masks_read : masks_of p (flatten m.masks) ≡ m.masks
  masks_read = masks_back p (omega (arith, (fitting s).exponents)) m.masks t.each

  -- what the masks give, in the library and in the scheme
  signed_read : signed_by (draw_challenge m.rule) (set_of m.set.byte) (key_of (m.set.byte ∷ m.key)) m.exponents (flatten m.masks) m.message
      ≡ signing (draw_challenge m.rule) p m.exponents m.message 0 (key_in m.key) m.masks
  unfolding signed_by key_of
  signed_read = rw (← s.own) (ap (signing (draw_challenge m.rule) p m.exponents m.message 0 (key_in m.key)) masks_read)

  -- an accepted signing is by the first of them that passes
  pub record SignedRead : Type 0 where
    pub signing : Signed
    pub first : FirstOfRead m signing
    pub place : signing.passed_over ≡ first_passing m
    pub bytes : bytes_with m ≡ signature_of m.set.byte signing.signature

  accepted_read : answer_with m ≡ answer.Signed (first_passing m) → SignedRead
  unfolding sign_answer sign_written
  accepted_read e =
      let refusal = sign_refusal m.rule (m.set.byte ∷ m.key) m.exponents (flatten m.masks) m.message (signature_room p) in
      let (allowed, (r, (signs, place))) = accepted refusal _ e in
      record {
        signing = r;
        first = (first_passing_lem (draw_challenge m.rule) p m.exponents m.message (key_in m.key) m.masks r).0 (sym signed_read ∙ signs);
        place = place;
        bytes = written_by refusal m.set.byte (signature_room p) allowed signs;
      }

  -- a signing is refused with 9 where none passes
  nine_read : answer_with m ≡ answer.Refused 9 → NoneOfRead m
  unfolding key_of
  nine_read e j h =
      let none = ((entry_none_signs m.rule (m.set.byte ∷ m.key) m.exponents (flatten m.masks) m.message (signature_room p)).0 e).1 in
      let count = masks_count p (flatten m.masks) in
      rw (← s.own, mask_of_flattened p m.masks j t.each h) at (none j (rw (← s.own) (omega (arith, count, ap length masks_read))))

-- the row of a play
module _ (m : Material) (a : Available) (s : Session) (w : KeptAll m a s.held) (file buffer : List ℕ) where
  pub signs_by_first : SignsByFirst m (row_event s file buffer)
  unfolding with_command with_accepted
  signs_by_first =
      let x = step_facts m a s w file in
      let tested = rw w.masks.0 at w.masks.1 in
      record {
        accepted = λ six zero.
            let y = x.signs six zero in
            let r = accepted_read m tested y.set y.answer in
            record {
              signing = r.signing;
              first = r.first;
              ordinal = (step s file).ordinal;
              behind = drop (length (row_of (step s file))) buffer;
              row = rw (six, zero, y.payload, r.place, r.bytes);
              left = rw (six, zero, r.place);
            };
        refused = λ six nine. let y = x.nine six nine in record { none = nine_read m tested y.set y.answer; left = rw (six, nine) };
      }
