-- What the fields of `Held` mean, and what holds of them.
-- Assumes nothing.
use Rattle.std.specs.Prelude.{◌≡◌, true, ℕ, ◌≤◌, List, take, replicate, IfSome, IfNone}
use Rattle.std.specs.declared.option.Option.{Option as OptionOf}
use Rattle.std.specs.declared.option.Option.TheVariants.{Some, None}
use Rattle.std.proofs.Math.Option.{Option, none, some}
use Rattle.parameters.specs.declared.Params.{Params}
use Rattle.parameters.specs.Limits.{max_n, max_masks}
use Rattle.challenge.specs.Rules.{rule_number}
use Rattle.encoding.specs.Bytes.{parts}
use Rattle.encoding.specs.Encoding.{are_exponents, are_evaluations}
use Rattle.session_rules.specs.Held as rules
use Rattle.session_commands.specs.declared.Chosen.{Chosen}
use Rattle.session_commands.specs.declared.Held.TheInside.{Inside}

-- what a thing that is held means, where it is
abbrev pub held_as : {A B : Type 0} → (A → B) → OptionOf A → Option B
held_as f None = none
held_as f (Some a) = some (f a)

-- the set in force
abbrev pub chosen_of : Chosen → rules.Chosen
chosen_of c = record { byte = c.byte; params = c.ring.params }

abbrev pub set_of : Inside → Option rules.Chosen
set_of a = held_as chosen_of a.set

-- the key in front of a list, with so many signatures left
abbrev pub key_with : ℕ → List ℕ → ℕ → rules.HeldKey
key_with n bytes left = record { bytes = take n bytes; left = left }

-- lists stand in front of their arrays, masks of N numbers one behind the other
module _ (a : Inside) where
  abbrev pub params_in : Params
  params_in = rules.params_of (set_of a)

  abbrev pub held_of : rules.Held
  held_of =
      record {
        rule = rule_number a.rule;
        set = set_of a;
        exponents = held_as (take params_in.t) a.exponents;
        key = held_as (key_with params_in.n a.key) a.left;
        evaluations = held_as (take params_in.t) a.evaluations;
        masks = parts params_in.n a.mask_count a.masks;
        message = held_as (λ (message : List ℕ). message) a.message;
      }

  -- there are no more masks than eight; points are points of the set, and evaluations are below q; where no key is held its bytes are zeros
  pub record IsHeld : Type 0 where
    pub few : a.mask_count ≤ max_masks
    pub exponents : IfSome a.exponents (λ js. are_exponents params_in (take params_in.t js) ≡ true)
    pub evaluations : IfSome a.evaluations (λ vs. are_evaluations params_in (take params_in.t vs) ≡ true)
    pub cleared : IfNone a.left (a.key ≡ replicate max_n 0)
