-- What a session holds after plays: each thing is what is read of it, as its command tested it, so that the library would not refuse it. One law for each
-- setter.
-- Assumes nothing.
use mathlib.Core.Path.{◌≡◌, refl, sym}
use mathlib.Core.Bool.{Bool, true, false, true≢false, ◌&&◌}
use mathlib.Core.List.{List, []}
use mathlib.Core.Option.{Option, none, some}
use Prim.Native.Nat.{ℕ, ◌≤◌, ◌<◌}
use native.Mathlib.Omega.{arith}
use lib.Dec.{T, eqb}
use lib.IntN.{ℤ}
use lib.ListN.{length}
use Rattle.algebra.specs.All.{all}
use Rattle.algebra.specs.Integer.{within}
use Rattle.parameters.specs.declared.Params.{Params}
use Rattle.parameters.specs.Sets.{set_of}
use Rattle.challenge.specs.Pool.{is_rule}
use Rattle.encoding.specs.Encoding.{is_key_byte, are_exponents, are_evaluations}
use Rattle.session_rules.specs.Held.{Chosen, HeldKey, Held, only_set, is_held, leaving}
use Rattle.session_rules.specs.Held.{with_rule, with_exponents, with_key, with_left, with_evaluations, with_masks, with_message}
use Rattle.session_rules.specs.Plays.{Material, params_in, read_rule, read_exponents, read_key, read_masks, read_message}
use Rattle.session_rules.specs.HeldIsRead.{Available, set_exponents, set_key, set_left, set_evaluations, set_message}
use Rattle.session_rules.specs.HeldIsRead.{Holding, absent, holds, key_read, HeldIsRead}

-- ---- what each command tested

pub record TestedSet (c : Chosen) : Type 0 where
  pub known : c.byte < 5
  pub own : c.params ≡ set_of c.byte

pub record TestedRule (rule : ℕ) : Type 0 where
  pub known : is_rule rule ≡ true

pub record TestedMessage (l : List ℕ) : Type 0 where
  pub size : length l ≡ 64

abbrev pub is_mask : Params → List ℤ → Bool
is_mask p y = eqb (length y) p.n && within p.k y

module _ (p : Params) where
  pub record TestedExponents (l : List ℕ) : Type 0 where
    pub size : length l ≡ p.t
    pub rise : are_exponents p l ≡ true

  pub record TestedKey (k : HeldKey) : Type 0 where
    pub size : length k.bytes ≡ p.n
    pub bytes : all is_key_byte k.bytes ≡ true

  pub record TestedEvaluations (l : List ℕ) : Type 0 where
    pub size : length l ≡ p.t
    pub below : are_evaluations p l ≡ true

  pub record TestedMasks (ys : List (List ℤ)) : Type 0 where
    pub each : T (all (is_mask p) ys)
    pub few : length ys ≤ 8

-- ---- what is held

-- a thing that is available is held as it is read, a, and was tested; any other is not held
pub data Kept {A : Type 0} (P : A → Type 0) (a : A) : Bool → Option A → Type 0 where
  gone : Kept P a false none
  kept : P a → Kept P a true (some a)

module _ {A : Type 0} {P : A → Type 0} {a : A} where
  pub holding : {x : Bool} {o : Option A} → Kept P a x o → Holding (λ (b : A). b ≡ a) x o
  holding gone = absent
  holding (kept p) = holds refl

  -- what is available is held, and no more
  pub held_as : {x : Bool} {o : Option A} → Kept P a x o → x ≡ true → o ≡ some a
  held_as gone e = absurd (true≢false (sym e))
  held_as (kept p) e = refl

  pub is_available : {x : Bool} {o : Option A} → Kept P a x o → is_held o ≡ x
  is_available gone = refl
  is_available (kept p) = refl

-- a thing that a command worked out from what is held
pub kept_as : {A : Type 0} {P : A → Type 0} {a b : A} → b ≡ a → P b → Kept P a true (some b)
kept_as e p = rw e (kept (rw e at p))

-- a thing that a command needs
pub needed : {A : Type 0} {P : A → Type 0} {a : A} {x : Bool} {o : Option A} → Kept P a x o → T (is_held o) → (o ≡ some a) × P a
needed gone t = absurd t
needed (kept p) t = (refl, p)

-- a key with n signatures left
leave : {p : Params} {k : HeldKey} {x : Bool} {o : Option HeldKey} (n : ℕ) → Kept (TestedKey p) k x o
    → Kept (TestedKey p) (record { bytes = k.bytes; left = n }) x (leaving n o)
leave n gone = gone
leave n (kept t) = kept (record { size = t.size; bytes = t.bytes })

-- everything held, with what is read
pub record KeptAll (m : Material) (a : Available) (h : Held) : Type 0 where
  pub rule : (h.rule ≡ m.rule) × TestedRule m.rule
  pub set : Kept TestedSet m.set a.set h.set
  pub exponents : Kept (TestedExponents (params_in m)) m.exponents a.exponents h.exponents
  pub key : Kept (TestedKey (params_in m)) (key_read m a) a.key h.key
  pub evaluations : Kept (TestedEvaluations (params_in m)) a.values a.evaluations h.evaluations
  pub message : Kept TestedMessage m.message a.message h.message
  pub masks : (h.masks ≡ m.masks) × TestedMasks (params_in m) h.masks

module _ {m : Material} {a : Available} {h : Held} (w : KeptAll m a h) where
  pub held_read : HeldIsRead m a h
  held_read = record {
    rule = w.rule.0;
    set = holding w.set;
    exponents = holding w.exponents;
    key = holding w.key;
    evaluations = holding w.evaluations;
    message = holding w.message;
    masks = w.masks.0;
  }

  module _ {x : Bool} {o : Option (List ℕ)} (l : List ℕ) where
    pub keep_exponents : Kept (TestedExponents (params_in m)) l x o → KeptAll (read_exponents m l) (set_exponents a x) (with_exponents h o)
    keep_exponents k =
        record { rule = w.rule; set = w.set; exponents = k; key = w.key; evaluations = w.evaluations; message = w.message; masks = w.masks }

    pub keep_evaluations : Kept (TestedEvaluations (params_in m)) l x o → KeptAll m (set_evaluations a x l) (with_evaluations h o)
    keep_evaluations k =
        record { rule = w.rule; set = w.set; exponents = w.exponents; key = w.key; evaluations = k; message = w.message; masks = w.masks }

    pub keep_message : Kept TestedMessage l x o → KeptAll (read_message m l) (set_message a x) (with_message h o)
    keep_message k =
        record { rule = w.rule; set = w.set; exponents = w.exponents; key = w.key; evaluations = w.evaluations; message = k; masks = w.masks }

  pub keep_rule : (rule : ℕ) → TestedRule rule → KeptAll (read_rule m rule) a (with_rule h rule)
  keep_rule rule known = record {
    rule = (refl, known);
    set = w.set;
    exponents = w.exponents;
    key = w.key;
    evaluations = w.evaluations;
    message = w.message;
    masks = w.masks;
  }

  pub keep_key : {x : Bool} {o : Option HeldKey} (k : HeldKey) → Kept (TestedKey (params_in m)) k x o
      → KeptAll (read_key m k.bytes) (set_left (set_key a x) k.left) (with_key h o)
  keep_key k t =
      record { rule = w.rule; set = w.set; exponents = w.exponents; key = t; evaluations = w.evaluations; message = w.message; masks = w.masks }

  pub keep_left : (n : ℕ) → KeptAll m (set_left a n) (with_left h n)
  keep_left n =
      let k = leave n w.key in
      record { rule = w.rule; set = w.set; exponents = w.exponents; key = k; evaluations = w.evaluations; message = w.message; masks = w.masks }

  pub keep_masks : {ys zs : List (List ℤ)} → ys ≡ zs → TestedMasks (params_in m) ys → KeptAll (read_masks m zs) a (with_masks h ys)
  keep_masks e t =
      record { rule = w.rule; set = w.set; exponents = w.exponents; key = w.key; evaluations = w.evaluations; message = w.message; masks = (e, t) }

-- nothing but a set, or nothing at all
pub only_set_lem : (m : Material) {x : Bool} {rule : ℕ} {o : Option Chosen} (vs : List ℕ) (n : ℕ) → (rule ≡ m.rule) × TestedRule m.rule
    → Kept TestedSet m.set x o
    → KeptAll (read_masks m []) (record { set = x; exponents = false; key = false; evaluations = false; message = false; values = vs; left = n })
    (only_set rule o)
only_set_lem m vs n rule k = record {
  rule = rule;
  set = k;
  exponents = gone;
  key = gone;
  evaluations = gone;
  message = gone;
  masks = (refl, record { each = tt; few = omega arith });
}
