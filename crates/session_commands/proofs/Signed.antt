-- Signing with what is held, from the fields to what they mean: the library answers as the entry does, and where it signs it writes as the entry writes,
-- whatever the room held.
-- Assumes nothing.
use Rattle.std.proofs.Common.{◌≡◌, ℕ, ◌+◌, ◌-◌, ◌*◌, ◌<◌, List, ◌∷◌, ◌++◌, ℤ, length, take, drop, Some, Ok, Err, arith, refl, ap, eqb}
use mathlib.Core.Path.{sym, ◌∙◌}
use mathlib.Core.Bool.{Bool, true, false, cond}
use mathlib.Core.List.{flatten}
use mathlib.Core.Option.{Option, none, some}
use native.Mathlib.Numerals.{add-one}
use lib.ListN.{length-replicate}
use lib.Seq.{take_at}
use borrow.Author.Tests.{le-ltb, ne_eqb}
use Rattle.std.specs.declared.result.Result.{Result}
use Rattle.parameters.specs.Limits.{max_message}
use Rattle.challenge.specs.Draw.{draw_challenge}
use Rattle.challenge.specs.Rules.{rule_number}
use Rattle.encoding.specs.Bytes.{parts}
use Rattle.encoding.specs.Encoding.{signature_size, key_of}
use Rattle.encoding.proofs.Parts.{flatten-parts}
use Rattle.scheme.specs.Scheme.{Signed}
use Rattle.refusal.specs.declared.Refusal.{Refusal}
use Rattle.refusal.specs.declared.Refusal.TheVariants as refusal
use Rattle.refusal.specs.Meaning.{refusal_number, signing_in}
use Rattle.refusal.specs.Numbers.{none_passes}
use Rattle.refusal.specs.Signing as answer
use Rattle.signing.specs.Signer.{signed_by, signed_bytes}
use Rattle.signing.specs.Sign.{signed_answer, sign_refusal_in, sign_answer_in, sign_written_in, sign_refusal, sign_answer, sign_written}
use Rattle.session_rules.specs.Held as rules
use Rattle.session_rules.specs.CommandTable.{command_of, command_table}
use Rattle.session_rules.specs.Commands.{signature_room, after_signing, sign, command, command_in}
use Rattle.session_commands.specs.declared.Added.TheVariants as added
use Rattle.session_commands.specs.declared.Chosen.{Chosen}
use Rattle.session_commands.specs.declared.Held.TheInside.{Inside}
use Rattle.session_commands.specs.Outcome.{result_in}
use Rattle.session_commands.specs.View.{chosen_of, held_of}

-- a signing that is not refused writes no byte that was there
any_room : (passed : Bool) (signed : Option Signed) (n s i : ℕ) (out room : List ℕ) → cond passed (signed_answer signed) (answer.Refused n) ≡ answer.Signed i
    → cond passed (signed_bytes s signed out) out ≡ cond passed (signed_bytes s signed room) room
any_room true (some r) n s i out room e = refl
any_room true none n s i out room e = absurd (let z : ◌≡◌ {A = ℕ} 0 1 = cc in omega arith)
any_room false signed n s i out room e = absurd (let z : ◌≡◌ {A = ℕ} 0 1 = cc in omega arith)

module _ (x : Chosen) (rule : ℕ) (key js : List ℕ) (ys : List ℤ) (message out : List ℕ) (short : length message ≡ 64)
    (size : length out ≡ signature_size x.ring.params) where
  -- the room that the rules lend is as long
  room : length out ≡ length (signature_room x.ring.params)
  room = size ∙ sym (length-replicate (signature_size x.ring.params) 0)

  abbrev refused : ℕ
  refused = sign_refusal_in rule x.ring.params (x.byte ∷ key) js ys (length out)

  abbrev signed : Option Signed
  signed = signed_by (draw_challenge rule) x.ring.params (key_of (x.byte ∷ key)) js ys message

  -- neither message nor set is refused
  alike : sign_refusal rule (x.byte ∷ key) js ys message (signature_room x.ring.params) ≡ refused
  unfolding sign_refusal
  alike =
      let long = le-ltb max_message (length message) (omega arith) in
      rw (long, ne_eqb (length (x.byte ∷ key)) 0 (λ z. omega arith), x.known, ← x.numbers, ← room)

  pub answer_lent : sign_answer_in draw_challenge rule x.ring.params (x.byte ∷ key) js ys message out
      ≡ sign_answer rule (x.byte ∷ key) js ys message (signature_room x.ring.params)
  unfolding sign_answer_in sign_answer
  answer_lent = rw (alike, ← x.numbers)

  pub written_lent : {i : ℕ} → sign_answer_in draw_challenge rule x.ring.params (x.byte ∷ key) js ys message out ≡ answer.Signed i
      → sign_written_in draw_challenge rule x.ring.params (x.byte ∷ key) js ys message out
      ≡ sign_written rule (x.byte ∷ key) js ys message (signature_room x.ring.params)
  unfolding sign_answer_in sign_written_in sign_written
  written_lent {i} told = rw (alike, ← x.numbers) (any_room (eqb refused 0) signed refused x.byte i out (signature_room x.ring.params) told)

-- a refusal other than 9
not_nine : (r : Refusal) → (r ≡ refusal.NonePasses → ⊥) → eqb (refusal_number r) none_passes ≡ false
not_nine refusal.WrongLength h = refl
not_nine refusal.WrongSet h = refl
not_nine refusal.NoSet h = refl
not_nine refusal.WrongExponents h = refl
not_nine refusal.WrongKey h = refl
not_nine refusal.WrongMask h = refl
not_nine refusal.WrongEvaluation h = refl
not_nine refusal.TooManyMasks h = refl
not_nine refusal.NonePasses h = absurd (h refl)
not_nine refusal.NotHeld h = refl
not_nine refusal.PoolSpent h = refl
not_nine refusal.WrongEntries h = refl
not_nine refusal.FileEnds h = refl
not_nine refusal.UnknownCommand h = refl
not_nine refusal.WrongTag h = refl
not_nine refusal.BytesAfterEnd h = refl
not_nine refusal.NoneLeft h = refl
not_nine refusal.WrongRule h = refl

module _ (a : Inside) (x : Chosen) (js message : List ℕ) (left : ℕ) (set : a.set ≡ Some x) (points : a.exponents ≡ Some js) (key : a.left ≡ Some left)
    (text : a.message ≡ Some message) (some_left : 0 < left) (short : length message ≡ 64) (out : List ℕ) (size : length out ≡ signature_size x.ring.params)
    (r : Result ℕ Refusal)
    (told : signing_in r ≡ sign_answer_in draw_challenge (rule_number a.rule) x.ring.params (x.byte ∷ take x.ring.params.n a.key) (take x.ring.params.t js)
    (take (a.mask_count * x.ring.params.n) a.masks) message out) where
  abbrev written : List ℕ
  written =
      sign_written (rule_number a.rule) (x.byte ∷ take x.ring.params.n a.key) (take x.ring.params.t js) (flatten (parts x.ring.params.n a.mask_count a.masks)) message
      (signature_room x.ring.params)

  answered : sign_answer (rule_number a.rule) (x.byte ∷ take x.ring.params.n a.key) (take x.ring.params.t js)
      (flatten (parts x.ring.params.n a.mask_count a.masks)) message (signature_room x.ring.params) ≡ signing_in r
  answered =
      rw (flatten-parts x.ring.params.n a.mask_count a.masks)
      (sym (told ∙ answer_lent x (rule_number a.rule) (take x.ring.params.n a.key) (take x.ring.params.t js) (take (a.mask_count * x.ring.params.n) a.masks) message out
      short size))

  decided : (op : List ℕ) → command (held_of a) 6 op ≡ after_signing (chosen_of x) (held_of a) (signing_in r) written
  unfolding sign command command_in command_of command_table
  decided op = rw (set, points, key, text, ne_eqb left 0 (λ z. omega arith), answered)

  -- 9 drops all masks
  abbrev pub without_masks : Inside
  without_masks =
      record {
        rule = a.rule;
        set = a.set;
        exponents = a.exponents;
        left = a.left;
        key = a.key;
        evaluations = a.evaluations;
        mask_count = 0;
        masks = a.masks;
        message = a.message;
      }

  pub passes_none : r ≡ Err refusal.NonePasses → (bytes op : List ℕ) → result_in (Err refusal.NonePasses) (held_of without_masks) bytes ≡ command (held_of a) 6 op
  passes_none e bytes op = rw (decided op, e)

  -- any other refusal leaves all
  pub refuses : (q : Refusal) → r ≡ Err q → (q ≡ refusal.NonePasses → ⊥) → (bytes op : List ℕ) → result_in (Err q) (held_of a) bytes ≡ command (held_of a) 6 op
  refuses q e other bytes op = rw (decided op, e, not_nine q other)

  -- one signature is taken off
  abbrev pub one_taken_off : Inside
  one_taken_off =
      record {
        rule = a.rule;
        set = a.set;
        exponents = a.exponents;
        left = Some (left - 1);
        key = a.key;
        evaluations = a.evaluations;
        mask_count = a.mask_count;
        masks = a.masks;
        message = a.message;
      }

  -- signed with mask i: it is dropped with those before it, and the signature stands in front of the room
  module _ (new rest : List ℕ)
      (wrote : new ≡ sign_written_in draw_challenge (rule_number a.rule) x.ring.params (x.byte ∷ take x.ring.params.n a.key) (take x.ring.params.t js)
      (take (a.mask_count * x.ring.params.n) a.masks) message out)
      (taken : ℕ) (size_is : taken ≡ signature_size x.ring.params) (new_size : length new ≡ taken) (i : ℕ) (signs : r ≡ Ok i) where
    told_signed : sign_answer_in draw_challenge (rule_number a.rule) x.ring.params (x.byte ∷ take x.ring.params.n a.key) (take x.ring.params.t js)
        (take (a.mask_count * x.ring.params.n) a.masks) message out ≡ answer.Signed i
    told_signed = sym told ∙ ap signing_in signs

    bytes_written : new ≡ written
    bytes_written =
        rw (flatten-parts x.ring.params.n a.mask_count a.masks)
        (wrote
        ∙ written_lent x (rule_number a.rule) (take x.ring.params.n a.key) (take x.ring.params.t js) (take (a.mask_count * x.ring.params.n) a.masks) message out short size
        told_signed)

    pub signed_with : (op : List ℕ)
        → result_in (Ok (added.Signed i taken)) (rules.with_masks (held_of one_taken_off) (drop (i + 1) (held_of one_taken_off).masks)) (new ++ rest)
        ≡ command (held_of a) 6 op
    signed_with op =
        let front = take_at new rest taken new_size ∙ bytes_written in
        rw (decided op, signs, set, key, add-one, front)
