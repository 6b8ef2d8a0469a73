-- What a session holds, with one setter for each thing held.
-- Assumes nothing.
use Rattle.std.specs.Prelude.{Bool, true, false, List, [], ℕ, ℤ}
use Rattle.std.proofs.Math.Option.{Option, none, some}
use Rattle.parameters.specs.declared.Params.{Params}
use Rattle.parameters.specs.Sets.{row}

-- a parameter set in force: the set byte that its encodings have, and its numbers
pub record Chosen : Type 0 where
  pub byte : ℕ
  pub params : Params

-- the numbers in force: all 0 where there is no set
abbrev pub params_of : Option Chosen → Params
params_of none = row 0 0 0 0 0 0
params_of (some c) = c.params

-- a key that is held: its N bytes, and the signatures that it may still give
pub record HeldKey : Type 0 where
  pub bytes : List ℕ
  pub left : ℕ

-- the signatures that a key may give when it is loaded: the first grant
abbrev pub first_grant : ℕ
first_grant = 65535

-- the rule of hashing in force, and what is held: masks in the order in which they came
pub record Held : Type 0 where
  pub rule : ℕ
  pub set : Option Chosen
  pub exponents : Option (List ℕ)
  pub key : Option HeldKey
  pub evaluations : Option (List ℕ)
  pub masks : List (List ℤ)
  pub message : Option (List ℕ)

-- whether a thing is held, and what is held: nothing where it is not
abbrev pub is_held : {A : Type 0} → Option A → Bool
is_held none = false
is_held (some a) = true

abbrev pub given : Option (List ℕ) → List ℕ
given none = []
given (some l) = l

-- the bytes of the key and the signatures left: none where no key is held
abbrev pub bytes_of : Option HeldKey → List ℕ
bytes_of none = []
bytes_of (some k) = k.bytes

abbrev pub left_of : Option HeldKey → ℕ
left_of none = 0
left_of (some k) = k.left

-- the same key, with n signatures left
abbrev pub leaving : ℕ → Option HeldKey → Option HeldKey
leaving n none = none
leaving n (some k) = some (record { bytes = k.bytes; left = n })

-- nothing but a set, or nothing at all, under a rule
abbrev pub only_set : ℕ → Option Chosen → Held
only_set rule c = record { rule = rule; set = c; exponents = none; key = none; evaluations = none; masks = []; message = none }

-- ---- one setter for each

module _ (h : Held) where
  abbrev pub with_rule : ℕ → Held
  with_rule rule =
      record { rule = rule; set = h.set; exponents = h.exponents; key = h.key; evaluations = h.evaluations; masks = h.masks; message = h.message }

  abbrev pub with_exponents : Option (List ℕ) → Held
  with_exponents js =
      record { rule = h.rule; set = h.set; exponents = js; key = h.key; evaluations = h.evaluations; masks = h.masks; message = h.message }

  abbrev pub with_key : Option HeldKey → Held
  with_key key =
      record { rule = h.rule; set = h.set; exponents = h.exponents; key = key; evaluations = h.evaluations; masks = h.masks; message = h.message }

  abbrev pub with_left : ℕ → Held
  with_left n = with_key (leaving n h.key)

  abbrev pub with_evaluations : Option (List ℕ) → Held
  with_evaluations vs =
      record { rule = h.rule; set = h.set; exponents = h.exponents; key = h.key; evaluations = vs; masks = h.masks; message = h.message }

  abbrev pub with_masks : List (List ℤ) → Held
  with_masks ys =
      record { rule = h.rule; set = h.set; exponents = h.exponents; key = h.key; evaluations = h.evaluations; masks = ys; message = h.message }

  abbrev pub with_message : Option (List ℕ) → Held
  with_message message =
      record { rule = h.rule; set = h.set; exponents = h.exponents; key = h.key; evaluations = h.evaluations; masks = h.masks; message = message }
