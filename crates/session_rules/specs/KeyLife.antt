-- Document 02, "A key with a life" (request #105): what a reader of a session's commands and rows finds of each key that was loaded, while it is held.
-- Assumes nothing.
use Rattle.std.specs.Prelude.{◌≡◌, Bool, false, not, ◌||◌, cond, List, [], ◌∷◌, ◌++◌, ◌↔◌, ℕ, ◌+◌, T}
use Rattle.std.proofs.Math.Option.{some}
use Rattle.algebra.specs.All.{all}
use Rattle.algebra.specs.Count.{count}
use Rattle.encoding.specs.Bytes.{value_of}
use Rattle.refusal.specs.Numbers.{not_held, none_left}
use Rattle.session_rules.specs.Held.{first_grant, Held, is_held}
use Rattle.session_rules.specs.Plays.{Event, is_accepted, is_signing, no_material}
use Rattle.session_rules.specs.HeldIsRead.{none_available, available_after, can_sign}
use Rattle.session_rules.specs.Refusals.{is_ending}

-- ---- read from a command and the number in its row

-- an accepted 03 loads a key, an accepted 0A grants
abbrev pub is_loading : Event → Bool
is_loading = is_accepted 0x03

abbrev pub is_grant : Event → Bool
is_grant = is_accepted 0x0A

-- the key held stays held: an accepted 01, 02 or 08 forgets it, and an accepted 03 loads a key anew
abbrev pub keeps_key : Event → Bool
keeps_key e = not (is_accepted 0x01 e || (is_accepted 0x02 e || (is_accepted 0x08 e || is_loading e)))

-- ---- read from the commands since a loading

-- the signatures given: the accepted 06
abbrev pub signatures_given : List Event → ℕ
signatures_given es = count is_signing es

-- the number last granted: `first` where none of these commands grants
abbrev pub last_grant_or : ℕ → List Event → ℕ
last_grant_or first [] = first
last_grant_or first (e ∷ es) = last_grant_or (cond (is_grant e) (value_of e.operand) first) es

-- the 65535 at loading is the first grant
abbrev pub last_grant : List Event → ℕ
last_grant since = last_grant_or first_grant since

-- whether one of these commands grants
abbrev pub has_grant : List Event → Bool
has_grant [] = false
has_grant (e ∷ es) = is_grant e || has_grant es

-- these commands up to and with the last that grants: none where none does
abbrev pub up_to_grant : List Event → List Event
up_to_grant [] = []
up_to_grant (e ∷ es) = cond (has_grant (e ∷ es)) (e ∷ up_to_grant es) []

-- "signatures given plus signatures left equals the number last granted plus those given before that grant"
abbrev pub Balanced : List Event → ℕ → Type 0
Balanced since left = signatures_given since + left ≡ last_grant since + signatures_given (up_to_grant since)

-- ---- a list of commands

-- a loading among them whose key is held since
pub record HeldSince (es : List Event) : Type 0 where
  pub before : List Event
  pub load : Event
  pub since : List Event
  pub split : es ≡ before ++ (load ∷ since)
  pub loads : T (is_loading load)
  pub held : T (all keeps_key since)

-- the key of a loading is held, and with the signatures left to it the account since is balanced
pub record Accounted (h : Held) (load : Event) (since : List Event) : Type 0 where
  pub left : ℕ
  pub key : h.key ≡ some (record { bytes = load.operand; left = left })
  pub balanced : Balanced since left

-- the commands es played from a session just opened, and what is held after them
pub record KeyLife (es : List Event) (h : Held) : Type 0 where
  -- for each loading of a key and while that key is held
  pub account : (l : HeldSince es) → Accounted h l.load l.since
  -- a key that is held was loaded, and is held since
  pub loaded : T (is_held h.key) → HeldSince es
  -- a 06 that does not end the session is refused with 10 just where points, key or message are not held, as read from the commands before it
  pub lacks : (front : List Event) (e : Event) (rest : List Event) → es ≡ front ++ (e ∷ rest) → e.byte ≡ 0x06 → is_ending e.number ≡ false
      → e.number ≡ not_held ↔ (can_sign (available_after no_material none_available front) ≡ false)
  -- else it is refused with 17 just where no signature is left to its key
  pub decides : (front : List Event) (e : Event) (rest : List Event) → es ≡ front ++ (e ∷ rest) → e.byte ≡ 0x06 → is_ending e.number ≡ false
      → (e.number ≡ not_held → ⊥) → (l : HeldSince front) → e.number ≡ none_left ↔ Balanced l.since 0
