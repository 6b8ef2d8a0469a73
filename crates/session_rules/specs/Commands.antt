-- Document 01, "The session file", and document 02: the commands, each from what is held and its operand to a number (0 or the refusal), what is held after it,
-- and what its row adds. A refused command leaves what is held, save that 9 drops all masks.
-- Assumes nothing.
use Rattle.std.specs.Prelude.{not, cond, ℕ, suc, ◌-◌, leb, eqb, ℤ, length, get_or, drop, replicate}
use mathlib.Core.List.{List, [], ◌∷◌, ◌++◌, map, flatten}
use Rattle.std.proofs.Math.Option.{Option, none, some}
use Rattle.algebra.specs.All.{all}
use Rattle.algebra.specs.Integer.{within}
use Rattle.parameters.specs.declared.Params.{Params}
use Rattle.parameters.specs.Sets.{is_set, set_of}
use Rattle.polynomial.specs.Evaluation.{evaluations, evaluation_residues}
use Rattle.challenge.specs.Pool.{is_rule}
use Rattle.encoding.specs.Bytes.{value_of, numbers, signed16}
use Rattle.encoding.specs.Encoding.{is_key_byte, key_coefficient, are_exponents, are_evaluations, public_key, signature_size}
use Rattle.refusal.specs.Numbers.{wrong_set, no_set, wrong_exponents, wrong_key, wrong_mask, wrong_evaluation, too_many_masks, none_passes, not_held, none_left, wrong_rule}
use Rattle.refusal.specs.Signing.{Signing}
use Rattle.refusal.specs.Signing as signing
use Rattle.refusal.specs.Verdict.{Verdict}
use Rattle.refusal.specs.Verdict as verdict
use Rattle.signing.specs.Sign.{sign_answer, sign_written}
use Rattle.checking.specs.Check.{check_answer}
use Rattle.session_rules.specs.Held.{Chosen, HeldKey, first_grant, Held, given, bytes_of, left_of, only_set}
use Rattle.session_rules.specs.Held.{with_rule, with_exponents, with_key, with_left, with_evaluations, with_masks, with_message}
use Rattle.session_rules.specs.CommandTable.{command_of}

-- what an accepted command adds to its row: nothing; the evaluations in signed form (03); the number passed over and the signature (06); 1 or 0 (07)
pub data Payload : Type 0 where
  nothing : Payload
  values : List ℤ → Payload
  signed : ℕ → List ℕ → Payload
  judged : ℕ → Payload

-- what a command gives
pub record Result : Type 0 where
  pub number : ℕ
  pub held : Held
  pub payload : Payload

abbrev pub accepted : Held → Payload → Result
accepted h x = record { number = 0; held = h; payload = x }

-- a refusal: its number alone
abbrev pub refused : ℕ → Held → Result
refused n h = record { number = n; held = h; payload = nothing }

-- 01: set, one byte. Forgets all else held; the rule stays in force
unfoldable pub choose_set : Held → List ℕ → Result
choose_set h op =
    cond (not (is_set (get_or op 0 0))) (refused wrong_set h)
    (accepted (only_set h.rule (some (record { byte = get_or op 0 0; params = set_of (get_or op 0 0) }))) nothing)

-- 0B: rule of hashing, one byte. All that is held stays
unfoldable pub choose_rule : Held → List ℕ → Result
choose_rule h op = cond (not (is_rule (get_or op 0 0))) (refused wrong_rule h) (accepted (with_rule h (get_or op 0 0)) nothing)

-- the public evaluations of a key of N bytes at the points, and the same in 0..q-1
abbrev pub key_evaluations : Params → List ℕ → List ℕ → List ℤ
key_evaluations p exponents key = evaluations p (map key_coefficient key) exponents

abbrev pub key_residues : Params → List ℕ → List ℕ → List ℕ
key_residues p exponents key = evaluation_residues p (map key_coefficient key) exponents

-- a key as it is loaded
abbrev pub loaded_key : List ℕ → HeldKey
loaded_key op = record { bytes = op; left = first_grant }

-- a mask of N times two bytes
abbrev pub mask_of : Params → List ℕ → List ℤ
mask_of p op = map signed16 (numbers 2 p.n op)

-- the buffer that a signing is lent
abbrev pub signature_room : Params → List ℕ
signature_room p = replicate (signature_size p) 0

-- the commands in a set, with all that they need held
module _ (c : Chosen) (h : Held) where
  -- 02: t exponents. Forgets key and public evaluations
  unfoldable pub load_exponents : List ℕ → Result
  load_exponents op =
      cond (not (are_exponents c.params (numbers 2 c.params.t op))) (refused wrong_exponents h)
      (accepted (with_evaluations (with_key (with_exponents h (some (numbers 2 c.params.t op))) none) none) nothing)

  -- 03: key, N bytes, with the first grant. Works out its public evaluations: held in 0..q-1, as 08 gives them, and printed in signed form
  unfoldable pub load_key : List ℕ → Result
  load_key op =
      cond (not (all is_key_byte op)) (refused wrong_key h)
      (accepted (with_evaluations (with_key h (some (loaded_key op))) (some (key_residues c.params (given h.exponents) op)))
      (values (key_evaluations c.params (given h.exponents) op)))

  -- 04: mask, N times two bytes, held after the others; at most eight
  unfoldable pub load_mask : List ℕ → Result
  load_mask op =
      cond (leb 8 (length h.masks)) (refused too_many_masks h)
      (cond (not (within c.params.k (mask_of c.params op))) (refused wrong_mask h)
      (accepted (with_masks h (h.masks ++ (mask_of c.params op ∷ []))) nothing))

  -- 05: message, 64 bytes
  unfoldable pub load_message : List ℕ → Result
  load_message op = accepted (with_message h (some op)) nothing

  -- after the library's signing: masks up to and with the one used are dropped, and the key has one signature less left; 9 drops all masks
  abbrev pub after_signing : Signing → List ℕ → Result
  after_signing (signing.Signed i) bytes = accepted (with_left (with_masks h (drop (suc i) h.masks)) (left_of h.key - 1)) (signed i bytes)
  after_signing (signing.Refused n) bytes = refused n (cond (eqb n none_passes) (with_masks h []) h)

  -- the call of the library under the rule in force, with the key in its encoding
  abbrev pub call_signing : {A : Type 0} → (ℕ → List ℕ → List ℕ → List ℤ → List ℕ → List ℕ → A) → A
  call_signing f =
      f h.rule (c.byte ∷ bytes_of h.key) (given h.exponents) (flatten h.masks) (given h.message) (signature_room c.params)

  -- 06: 17 where the key has no signature left, else the library's signing with what is held
  unfoldable pub sign : Result
  sign = cond (eqb (left_of h.key) 0) (refused none_left h) (after_signing (call_signing sign_answer) (call_signing sign_written))

  -- 07: the library's check under the rule in force of a signature without its set byte
  abbrev pub after_check : Verdict → Result
  after_check verdict.Yes = accepted h (judged 1)
  after_check verdict.No = accepted h (judged 0)
  after_check (verdict.Refused n) = refused n h

  unfoldable pub check : List ℕ → Result
  check op =
      after_check (check_answer h.rule (public_key c.byte (given h.exponents) (given h.evaluations)) (given h.message) (c.byte ∷ op))

  -- 08: public evaluations, three bytes each. Forgets the key
  unfoldable pub load_evaluations : List ℕ → Result
  load_evaluations op =
      cond (not (are_evaluations c.params (numbers 3 c.params.t op))) (refused wrong_evaluation h)
      (accepted (with_evaluations (with_key h none) (some (numbers 3 c.params.t op))) nothing)

  -- 0A: the signatures that the held key may still give, two bytes
  unfoldable pub grant : List ℕ → Result
  grant op = accepted (with_left h (value_of op)) nothing

-- command b, 02 to 08 or 0A, in a set: 10 where something that it needs is not held
unfoldable pub command_in : Chosen → Held → ℕ → List ℕ → Result
command_in c h b op =
    cond (not ((command_of b).needs h)) (refused not_held h)
    (cond (eqb b 0x02) (load_exponents c h op)
    (cond (eqb b 0x03) (load_key c h op)
    (cond (eqb b 0x04) (load_mask c h op)
    (cond (eqb b 0x05) (load_message c h op)
    (cond (eqb b 0x06) (sign c h)
    (cond (eqb b 0x07) (check c h op)
    (cond (eqb b 0x08) (load_evaluations c h op)
    (grant c h op))))))))

-- command b, other than 00, with its operand. Without a set only 01 and 0B come here: `command_step` refuses the others first, and ends the session
unfoldable pub command : Held → ℕ → List ℕ → Result
command h b op =
    cond (eqb b 0x01) (choose_set h op)
    (cond (eqb b 0x0B) (choose_rule h op)
    (in_set h.set))
  where
    in_set : Option Chosen → Result
    in_set none = refused no_set h
    in_set (some c) = command_in c h b op
