-- A library is as defined at an accepted signing: in the set of that signing it signs with another key, and it checks, as the definitions over the set
-- say. This is all that hiding asks of a library; any numbering of sets with any way to draw is so, and the entries are.
-- Assumes nothing.
use mathlib.Core.Path.{◌≡◌, sym, ap, ◌∙◌}
use mathlib.Core.List.{List}
use Prim.Native.Nat.{ℕ}
use native.Mathlib.Omega.{arith}
use lib.IntN.{ℤ}
use lib.ListN.{length}
use borrow.Author.Tests.{ltb-true, ne_eqb}
use Rattle.parameters.specs.declared.Params.{Params}
use Rattle.parameters.specs.Sets.{set_of}
use Rattle.challenge.specs.Draw.{draw_challenge}
use Rattle.encoding.specs.Encoding.{public_key}
use Rattle.scheme.specs.Scheme.{Drawers}
use Rattle.refusal.specs.Signing as signing
use Rattle.refusal.specs.Verdict as verdict
use Rattle.refusal.specs.Answer.{set_byte, set_in}
use Rattle.checking.specs.Check.{check_answer_in, check_answer}
use Rattle.values.specs.Keys.{public_key_in}
use Rattle.signing.proofs.Entry.{Known, answer_entry, written_entry}
use Rattle.passign.specs.Hiding.{Encodable, offered_alone, Library, signs_in, writes_in, any_library, our_library, SigningRecord, params_of, drawer_of, Accepted}
use Rattle.passign.specs.Hiding.{OtherKey}
use Rattle.passign.proofs.Correctness.{correctness, sign_then_check}
use Rattle.passign.proofs.FiveSets.{set_encodable}
use Rattle.passign.proofs.Entry.{sign_entry}

pub record AsDefined (l : Library) (m : SigningRecord) : Type 0 where
  pub encodable : Encodable (drawer_of l m) (params_of l m)
  -- the signing itself
  pub accepted : signs_in l.draw (params_of l m) m.call ≡ signing.Signed m.mask
  pub bytes : m.bytes ≡ writes_in l.draw (params_of l m) m.call
  -- with another key and a mask alone
  pub signs : (other : List ℕ) → OtherKey l m other → (y : List ℤ)
      → l.signs (offered_alone m.call other y) ≡ signs_in l.draw (params_of l m) (offered_alone m.call other y)
  pub writes : (other : List ℕ) → OtherKey l m other → (y : List ℤ)
      → l.writes (offered_alone m.call other y) ≡ writes_in l.draw (params_of l m) (offered_alone m.call other y)
  -- the check of the signature under its rule, with the public key of the key that signed
  pub checks : l.checks m.call.rule (public_key_in (params_of l m) m.call.key m.call.exponents) m.call.message m.bytes ≡ verdict.Yes

-- any library
pub any_as_defined : {set : ℕ → Params} {draw : Drawers} (m : SigningRecord) → Encodable (draw m.call.rule) (set (set_byte m.call.key))
    → Accepted (any_library set draw) m → AsDefined (any_library set draw) m
unfolding public_key_in public_key
any_as_defined {set} {draw} m e a =
    let call = m.call in
    let p = set (set_byte call.key) in
    record {
      encodable = e;
      accepted = a.answer;
      bytes = sym a.bytes;
      signs = λ other o y. ap (λ (s : ℕ). signs_in draw (set s) (offered_alone call other y)) o.set;
      writes = λ other o y. ap (λ (s : ℕ). writes_in draw (set s) (offered_alone call other y)) o.set;
      checks =
          ap (check_answer_in draw call.rule p (public_key_in p call.key call.exponents) call.message) (sym a.bytes)
          ∙ correctness draw call.rule e call.key call.exponents call.masks call.message call.out a.answer;
    }

-- the entries
pub ours_as_defined : (m : SigningRecord) → Accepted our_library m → AsDefined our_library m
ours_as_defined m a =
    let call = m.call in
    let p = set_in call.key in
    let h = sign_entry call.rule call.key call.exponents call.masks call.message call.out a.answer in
    let k = h.known in
    let known : (other : List ℕ) → OtherKey our_library m other → Known other call.message = λ other o. record {
      short = k.short;
      set = record { some = ne_eqb (length other) 0 (λ h. omega (arith, h, o.size)); set = rw o.set k.set.set };
    } in
    record {
      encodable = set_encodable call.rule (set_byte call.key) (ltb-true (set_byte call.key) 5 k.set.set);
      accepted = h.answer;
      bytes = sym a.bytes ∙ h.written;
      signs = λ other o y.
          answer_entry call.rule other call.exponents y call.message call.out (known other o)
          ∙ ap (λ (s : ℕ). signs_in draw_challenge (set_of s) (offered_alone call other y)) o.set;
      writes = λ other o y.
          written_entry call.rule other call.exponents y call.message call.out (known other o)
          ∙ ap (λ (s : ℕ). writes_in draw_challenge (set_of s) (offered_alone call other y)) o.set;
      checks =
          ap (check_answer call.rule (public_key_in p call.key call.exponents) call.message) (sym a.bytes)
          ∙ sign_then_check call.rule call.key call.exponents call.masks call.message call.out a.answer;
    }
