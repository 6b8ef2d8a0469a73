-- "Signing takes the first mask that passes and is refused with 9 only if none does", in sessions: what each 06 of a list of commands does with the masks
-- that are read from the commands before it.
-- Assumes nothing.
use Rattle.std.specs.Prelude.{◌≡◌, List, [], ◌∷◌, ◌++◌, ℕ, suc, ◌<◌, length, get_or, drop}
use Rattle.std.proofs.Math.Option.{none}
use Rattle.challenge.specs.Draw.{draw_challenge}
use Rattle.encoding.specs.Encoding.{key_in}
use Rattle.scheme.specs.Scheme.{Signed, attempt}
use Rattle.scheme.specs.FirstPassing as scheme
use Rattle.signing.specs.Signer.{signature_of}
use Rattle.session_rules.specs.Commands.{signed}
use Rattle.session_rules.specs.Rows.{row_text}
use Rattle.session_rules.specs.Plays.{Event, Material, params_in, with_command}

module _ (m : Material) where
  -- r is the signing, under the rule read, by the first of the masks read that passes: every mask before it fails
  abbrev pub FirstOfRead : Signed → Type 0
  FirstOfRead r = scheme.FirstPassing (draw_challenge m.rule) (params_in m) m.exponents m.message (key_in m.key) m.masks r

  -- none of the masks read passes
  abbrev pub NoneOfRead : Type 0
  NoneOfRead =
      (j : ℕ) → j < length m.masks
      → attempt (draw_challenge m.rule) (params_in m) m.exponents m.message (key_in m.key) (get_or m.masks j []) ≡ none

  -- an accepted 06: the first mask that passes signs, the row prints the number passed over and its signature, and the masks up to and with it are gone
  -- from what the next 06 signs with
  pub record FirstSigns (e : Event) : Type 0 where
    pub signing : Signed
    pub first : FirstOfRead signing
    pub ordinal : ℕ
    pub behind : List ℕ
    pub row : e.buffer ≡ row_text ordinal 6 0 (signed signing.passed_over (signature_of m.set.byte signing.signature)) ++ behind
    pub left : (with_command m e).masks ≡ drop (suc signing.passed_over) m.masks

  -- a 06 refused with 9: no mask passes, and none is left
  pub record NoneSigns (e : Event) : Type 0 where
    pub none : NoneOfRead
    pub left : (with_command m e).masks ≡ []

  -- a command, by what was read before it
  pub record SignsByFirst (e : Event) : Type 0 where
    pub accepted : e.byte ≡ 6 → e.number ≡ 0 → FirstSigns e
    pub refused : e.byte ≡ 6 → e.number ≡ 9 → NoneSigns e

-- each command of a list, with the material of those before it
abbrev pub EachSignsByFirst : Material → List Event → Type 0
EachSignsByFirst m [] = Unit {0}
EachSignsByFirst m (e ∷ es) = SignsByFirst m e × EachSignsByFirst (with_command m e) es
