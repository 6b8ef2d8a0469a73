-- What it is for a session to hold just what is read from the commands played: the material of a 06, and which of it (with the public evaluations) no later
-- command has forgotten.
-- Assumes nothing.
use Rattle.std.specs.Prelude.{◌≡◌, Bool, true, false, ◌&&◌, cond, List, [], ◌∷◌, ℕ, ◌-◌, eqb}
use Rattle.std.proofs.Math.Option.{Option, none, some}
use Rattle.encoding.specs.Bytes.{value_of, numbers}
use Rattle.session_rules.specs.Held.{Chosen, HeldKey, first_grant, Held}
use Rattle.session_rules.specs.Commands.{key_residues}
use Rattle.session_rules.specs.Plays.{Event, Material, no_material, params_in, with_command}

-- the material after more commands
unfoldable pub material_after : Material → List Event → Material
material_after m [] = m
material_after m (e ∷ es) = material_after (with_command m e) es

-- the material read from commands that are played from the start
abbrev pub material_read : List Event → Material
material_read es = material_after no_material es

-- beside the material: which things an accepted command gave that no later one has forgotten, the public evaluations given last, and the signatures left
-- to the key loaded last
pub record Available : Type 0 where
  pub set : Bool
  pub exponents : Bool
  pub key : Bool
  pub evaluations : Bool
  pub message : Bool
  pub values : List ℕ
  pub left : ℕ

unfoldable pub none_available : Available
none_available = record { set = false; exponents = false; key = false; evaluations = false; message = false; values = []; left = 0 }

module _ (a : Available) where
  -- one setter for each, evaluations with their values
  abbrev pub set_exponents : Bool → Available
  set_exponents x =
      record { set = a.set; exponents = x; key = a.key; evaluations = a.evaluations; message = a.message; values = a.values; left = a.left }

  abbrev pub set_key : Bool → Available
  set_key x =
      record { set = a.set; exponents = a.exponents; key = x; evaluations = a.evaluations; message = a.message; values = a.values; left = a.left }

  abbrev pub set_evaluations : Bool → List ℕ → Available
  set_evaluations x vs =
      record { set = a.set; exponents = a.exponents; key = a.key; evaluations = x; message = a.message; values = vs; left = a.left }

  abbrev pub set_message : Bool → Available
  set_message x =
      record { set = a.set; exponents = a.exponents; key = a.key; evaluations = a.evaluations; message = x; values = a.values; left = a.left }

  abbrev pub set_left : ℕ → Available
  set_left n =
      record { set = a.set; exponents = a.exponents; key = a.key; evaluations = a.evaluations; message = a.message; values = a.values; left = n }

  -- nothing but a set
  abbrev pub set_alone : Available
  set_alone = record { set = true; exponents = false; key = false; evaluations = false; message = false; values = a.values; left = a.left }

-- one more accepted command: 01 forgets all else, 02 forgets key and public evaluations, 03 has the first grant and works out its public evaluations,
-- 06 takes one signature off, 08 forgets the key, 0A grants
unfoldable pub available_with_accepted : Material → Available → ℕ → List ℕ → Available
available_with_accepted m a b op =
    cond (eqb b 0x01) (set_alone a)
    (cond (eqb b 0x02) (set_evaluations (set_key (set_exponents a true) false) false a.values)
    (cond (eqb b 0x03) (set_evaluations (set_left (set_key a true) first_grant) true (key_residues (params_in m) m.exponents op))
    (cond (eqb b 0x05) (set_message a true)
    (cond (eqb b 0x06) (set_left a (a.left - 1))
    (cond (eqb b 0x08) (set_evaluations (set_key a false) true (numbers 3 (params_in m).t op))
    (cond (eqb b 0x0A) (set_left a (value_of op))
    a))))))

-- one more command
unfoldable pub available_with : Material → Available → Event → Available
available_with m a e = cond (eqb e.number 0) (available_with_accepted m a e.byte e.operand) a

-- more commands
unfoldable pub available_after : Material → Available → List Event → Available
available_after m a [] = a
available_after m a (e ∷ es) = available_after (with_command m e) (available_with m a e) es

-- all that a 06 needs is available: points, key and message
abbrev pub can_sign : Available → Bool
can_sign a = a.exponents && (a.key && a.message)

-- where a thing is available something is held, and P of it; elsewhere nothing is
pub data Holding {A : Type 0} (P : A → Type 0) : Bool → Option A → Type 0 where
  absent : Holding P false none
  holds : {a : A} → P a → Holding P true (some a)

-- the key loaded last, with the signatures left to it
abbrev pub key_read : Material → Available → HeldKey
key_read m a = record { bytes = m.key; left = a.left }

-- what is held is what is read, and so is the rule in force
pub record HeldIsRead (m : Material) (a : Available) (h : Held) : Type 0 where
  pub rule : h.rule ≡ m.rule
  pub set : Holding (λ (c : Chosen). c ≡ m.set) a.set h.set
  pub exponents : Holding (λ (l : List ℕ). l ≡ m.exponents) a.exponents h.exponents
  pub key : Holding (λ (k : HeldKey). k ≡ key_read m a) a.key h.key
  pub evaluations : Holding (λ (l : List ℕ). l ≡ a.values) a.evaluations h.evaluations
  pub message : Holding (λ (l : List ℕ). l ≡ m.message) a.message h.message
  pub masks : h.masks ≡ m.masks
