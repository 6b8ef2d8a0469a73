-- The account of a key over a list of commands: what one command does to the key that is read and to the signatures left to it, and what a list of them does.
-- Assumes nothing.
use mathlib.Core.Path.{◌≡◌, refl, sym, ap, subst, ◌∙◌}
use mathlib.Core.Bool.{Bool, true, false, true≢false, not, ◌&&◌, ◌||◌, cond, and-true, and-false}
use mathlib.Core.List.{List, [], ◌∷◌, ◌++◌}
use mathlib.Core.Logic.{◌⊎◌, inl, inr, ⊎_elim}
use Prim.Native.Nat.{ℕ, ◌+◌, ◌-◌}
use native.Mathlib.Omega.{arith}
use lib.Dec.{T, eqb, eqb→eq}
use borrow.Author.Tests.{eqb-true, eqb-false, not-false}
use Rattle.algebra.specs.All.{all}
use Rattle.algebra.proofs.Test.{and_left, and_right, holds_true, true_holds, cond_by, by_test}
use Rattle.encoding.specs.Bytes.{value_of}
use Rattle.session_rules.specs.Held.{first_grant}
use Rattle.session_rules.specs.Play.{Session, opened}
use Rattle.session_rules.specs.Plays.{Event, events, is_accepted, is_signing, Material, no_material, with_accepted, with_command}
use Rattle.session_rules.specs.HeldIsRead.{material_after, Available, none_available, available_with_accepted, available_with, available_after, can_sign}
use Rattle.session_rules.specs.KeyLife.{is_loading, is_grant, keeps_key, signatures_given, last_grant_or, has_grant, up_to_grant, Balanced, HeldSince}
use Rattle.session_rules.proofs.CommandFacts.{TestedBy}
use Rattle.session_rules.proofs.Reaching.{step_facts, kept_opened, plays_by}

-- ---- each 06 of a list

-- it is refused with 10 just where something that it needs is not available, else with 17 just where no signature is left
abbrev pub EachTested : Material → Available → List Event → Type 0
EachTested m a [] = Unit {0}
EachTested m a (e ∷ es) = TestedBy a e.byte e.number × EachTested (with_command m e) (available_with m a e) es

pub each_tested : (file : List ℕ) (buffers : List (List ℕ)) → EachTested no_material none_available (events file buffers)
unfolding events
each_tested file buffers =
    plays_by file (λ (m : Material) (a : Available) (s : Session) (es : List Event) (t : Session). EachTested m a es)
    (λ m a s w. tt) (λ m a s w g buffer es t rest. ((step_facts m a s w file).tested, rest)) no_material none_available opened kept_opened buffers

-- in the front of a list, and at one of its commands
pub tested_front : (front rest : List Event) (m : Material) (a : Available) → EachTested m a (front ++ rest) → EachTested m a front
tested_front [] rest m a h = tt
tested_front (e ∷ front) rest m a h = (h.0, tested_front front rest _ _ h.1)

pub tested_at : (front : List Event) (e : Event) (rest : List Event) (m : Material) (a : Available) → EachTested m a (front ++ (e ∷ rest))
    → TestedBy (available_after m a front) e.byte e.number
unfolding available_after
tested_at [] e rest m a h = h.0
tested_at (d ∷ front) e rest m a h = tested_at front e rest _ _ h.1

-- ---- one command

accepted_parts : (b : ℕ) (e : Event) → is_accepted b e ≡ true → (e.byte ≡ b) × (e.number ≡ 0)
accepted_parts b e t =
    let both = true_holds t in
    (eqb→eq e.byte b (and_left (eqb e.byte b) _ both), eqb→eq e.number 0 (and_right (eqb e.byte b) _ both))

-- four tests of an accepted command that fail
none_of_four : (v w x y z : Bool) → T (not ((v && z) || ((w && z) || ((x && z) || (y && z))))) → z ≡ true
    → (v ≡ false) × ((w ≡ false) × ((x ≡ false) × (y ≡ false)))
none_of_four v w x y false t e = absurd (true≢false (sym e))
none_of_four true w x y true t e = absurd t
none_of_four false true x y true t e = absurd t
none_of_four false false true y true t e = absurd t
none_of_four false false false true true t e = absurd t
none_of_four false false false false true t e = (refl, (refl, (refl, refl)))

module _ (m : Material) (a : Available) where
  -- an accepted command other than 01, 02, 03 and 08
  module _ (b : ℕ) (op : List ℕ) (one : eqb b 1 ≡ false) (two : eqb b 2 ≡ false) (eight : eqb b 8 ≡ false) (three : eqb b 3 ≡ false) where
    accepted_life : let z = available_with_accepted m a b op in
        (z.key ≡ a.key) × (z.left ≡ cond (eqb b 10) (value_of op) (cond (eqb b 6) (a.left - 1) a.left))
    unfolding available_with_accepted
    accepted_life =
        rw (one, two, eight, three)
        (by_test (eqb b 5) (λ t. rw (eqb-true b 5 t) (refl, refl))
        (λ t. by_test (eqb b 6) (λ u. rw (eqb-true b 6 u) (refl, refl))
        (λ u. by_test (eqb b 10) (λ v. rw (t, u, v) (refl, refl)) (λ v. rw (t, u, v) (refl, refl)))))

    accepted_bytes : (with_accepted m b op).key ≡ m.key
    unfolding with_accepted
    accepted_bytes =
        let same : Material → Type 0 = λ (x : Material). x.key ≡ m.key in
        rw (one, two, three)
        (cond_by same (eqb b 4) (λ t. refl) (λ t. cond_by same (eqb b 5) (λ u. refl)
        (λ u. cond_by same (eqb b 6) (λ v. refl) (λ v. cond_by same (eqb b 11) (λ x. refl) (λ x. refl)))))

  module _ (e : Event) where
    -- a command that keeps the key: what is left is what it grants, or one less where it signs
    pub record KeyKept : Type 0 where
      pub key : (available_with m a e).key ≡ a.key
      pub bytes : (with_command m e).key ≡ m.key
      pub left : (available_with m a e).left ≡ cond (is_grant e) (value_of e.operand) (cond (is_signing e) (a.left - 1) a.left)

    key_kept : T (keeps_key e) → KeyKept
    unfolding available_with with_command
    key_kept k =
        let b = e.byte in
        by_test (eqb e.number 0)
        (λ z.
        let (one, (two, (eight, three))) = none_of_four (eqb b 1) (eqb b 2) (eqb b 8) (eqb b 3) (eqb e.number 0) k z in
        let (key, left) = accepted_life b e.operand one two eight three in
        record {
          key = rw z key;
          bytes = rw z (accepted_bytes b e.operand one two eight three);
          left = rw z (left ∙ rw (and-true (eqb b 10), and-true (eqb b 6)));
        })
        (λ z. record {
          key = rw z;
          bytes = rw z (cond_by (λ (x : Material). x.key ≡ m.key) (eqb e.number 9) (λ t. refl) (λ t. refl));
          left = rw z (rw (and-false (eqb b 10), and-false (eqb b 6)));
        })

    -- an accepted 03
    pub record KeyLoaded : Type 0 where
      pub key : (available_with m a e).key ≡ true
      pub bytes : (with_command m e).key ≡ e.operand
      pub left : (available_with m a e).left ≡ first_grant

    key_loaded : is_loading e ≡ true → KeyLoaded
    unfolding available_with with_command available_with_accepted with_accepted
    key_loaded t =
        let (three, zero) = accepted_parts 3 e t in
        record { key = rw (three, zero); bytes = rw (three, zero); left = rw (three, zero) }

    -- an accepted 01, 02 or 08
    key_forgotten : keeps_key e ≡ false → is_loading e ≡ false → (available_with m a e).key ≡ false
    unfolding available_with available_with_accepted
    key_forgotten k n =
        by_test (is_accepted 1 e) (λ t. let (one, zero) = accepted_parts 1 e t in rw (one, zero))
        (λ t. by_test (is_accepted 2 e) (λ u. let (two, zero) = accepted_parts 2 e u in rw (two, zero))
        (λ u. by_test (is_accepted 8 e) (λ v. let (eight, zero) = accepted_parts 8 e v in rw (eight, zero))
        (λ v. absurd (true≢false (rw (t, u, v, n) at k)))))

-- ---- the commands since a loading

-- x signatures are left before some commands, z after them
abbrev BalancedFrom : ℕ → List Event → ℕ → Type 0
BalancedFrom x es z = signatures_given es + z ≡ last_grant_or x es + signatures_given (up_to_grant es)

-- where one of them grants it does not matter what was granted before; where none does it is the number last granted
last_of_many : (x y : ℕ) (es : List Event) → has_grant es ≡ true → last_grant_or x es ≡ last_grant_or y es
last_of_many x y [] t = absurd (true≢false (sym t))
last_of_many x y (e ∷ es) t = by_test (is_grant e) (λ g. rw g) (λ g. rw g (last_of_many x y es (rw g at t)))

last_of_none : (x : ℕ) (es : List Event) → has_grant es ≡ false → last_grant_or x es ≡ x
last_of_none x [] t = refl
last_of_none x (e ∷ es) t =
    by_test (is_grant e) (λ g. absurd (true≢false (rw g at t))) (λ g. rw g (last_of_none x es (rw g at t)))

none_up_to : (es : List Event) → has_grant es ≡ false → up_to_grant es ≡ []
none_up_to [] t = refl
none_up_to (e ∷ es) t = rw t

-- a grant is no signing
grant_only : (e : Event) → is_grant e ≡ true → is_signing e ≡ false
grant_only e g = rw (accepted_parts 10 e g).0

-- one command more in front
module _ (e : Event) where
  given_more : (es : List Event) → signatures_given (e ∷ es) ≡ cond (is_signing e) 1 0 + signatures_given es
  given_more es = by_test (is_signing e) (λ s. rw s (omega arith)) (λ s. rw s (omega arith))

  last_more : (x : ℕ) (es : List Event) → is_grant e ≡ false → last_grant_or x (e ∷ es) ≡ last_grant_or x es
  last_more x es g = rw g

  up_to_more : (es : List Event) → has_grant (e ∷ es) ≡ true → signatures_given (up_to_grant (e ∷ es)) ≡ cond (is_signing e) 1 0 + signatures_given (up_to_grant es)
  up_to_more es t = ap signatures_given (up_to t) ∙ given_more (up_to_grant es)
    where
      up_to : has_grant (e ∷ es) ≡ true → up_to_grant (e ∷ es) ≡ e ∷ up_to_grant es
      up_to t = rw t

  -- y signatures are left after it
  module _ (es : List Event) (x y z : ℕ) (balance : BalancedFrom y es z) where
    balance_granted : is_grant e ≡ true → y ≡ value_of e.operand → BalancedFrom x (e ∷ es) z
    balance_granted g is =
        let last : last_grant_or x (e ∷ es) ≡ last_grant_or y es = rw (g, is) in
        let none : cond {A = ℕ} (is_signing e) 1 0 ≡ 0 = rw (grant_only e g) in
        omega (arith, balance, last, none, given_more es, up_to_more es (rw g))

    balance_spent : is_grant e ≡ false → x ≡ cond (is_signing e) 1 0 + y → BalancedFrom x (e ∷ es) z
    balance_spent g is =
        by_test (has_grant es)
        (λ t. omega (arith, balance, last_more x es g, last_of_many x y es t, given_more es, up_to_more es (rw (g, t))))
        (λ t.
        let none = ap signatures_given (none_up_to (e ∷ es) (rw (g, t))) in
        omega (arith, balance, is, last_more x es g, last_of_none x es t, last_of_none y es t, given_more es, ap signatures_given (none_up_to es t), none))

-- what is left before a command that does not grant: what is left after it, and one more where it signs
left_before : (signs : Bool) (x : ℕ) → (signs ≡ true → x ≡ 0 → ⊥) → x ≡ cond signs 1 0 + cond signs (x - 1) x
left_before true x some = omega (arith, some refl)
left_before false x some = omega arith

balance_more : (e : Event) (es : List Event) (x y z : ℕ) → y ≡ cond (is_grant e) (value_of e.operand) (cond (is_signing e) (x - 1) x)
    → (is_signing e ≡ true → x ≡ 0 → ⊥) → BalancedFrom y es z → BalancedFrom x (e ∷ es) z
balance_more e es x y z after some balance =
    by_test (is_grant e) (λ g. balance_granted e es x y z balance g (rw g at after))
    (λ g.
    let is : y ≡ cond (is_signing e) (x - 1) x = rw g at after in
    balance_spent e es x y z balance g (rw is (left_before (is_signing e) x some)))

-- commands that keep the key, with so many signatures left before them
record AccountFrom (m : Material) (a : Available) (es : List Event) : Type 0 where
  pub key : (available_after m a es).key ≡ true
  pub bytes : (material_after m es).key ≡ m.key
  pub balance : BalancedFrom a.left es (available_after m a es).left

-- an accepted 06 finds a signature left
some_left : (a : Available) (e : Event) → TestedBy a e.byte e.number → is_signing e ≡ true → a.left ≡ 0 → ⊥
some_left a e h s =
    let (six, zero) = accepted_parts 6 e s in
    let tested = rw zero at (h six (rw zero)) in
    eqb-false a.left 0 (sym (tested.spent (not-false (can_sign a) (sym tested.lacks))))

account_from : (es : List Event) (m : Material) (a : Available) → EachTested m a es → T (all keeps_key es) → a.key ≡ true → AccountFrom m a es
unfolding available_after material_after
account_from [] m a h held key = record { key = key; bytes = refl; balance = omega arith }
account_from (e ∷ es) m a h held key =
    let k = key_kept m a e (and_left (keeps_key e) (all keeps_key es) held) in
    let rest = account_from es (with_command m e) (available_with m a e) h.1 (and_right (keeps_key e) (all keeps_key es) held) (k.key ∙ key) in
    record {
      key = rest.key;
      bytes = rest.bytes ∙ k.bytes;
      balance =
          balance_more e es a.left (available_with m a e).left (available_after (with_command m e) (available_with m a e) es).left k.left
          (some_left a e h.0) rest.balance;
    }

-- ---- a loading and the commands since

-- the key read after them is that of the loading, and its account is balanced
pub record Account (m : Material) (a : Available) (es : List Event) (load : Event) (since : List Event) : Type 0 where
  pub key : (available_after m a es).key ≡ true
  pub bytes : (material_after m es).key ≡ load.operand
  pub balance : Balanced since (available_after m a es).left

account_behind : (before : List Event) (load : Event) (since : List Event) (m : Material) (a : Available) → EachTested m a (before ++ (load ∷ since))
    → T (is_loading load) → T (all keeps_key since) → Account m a (before ++ (load ∷ since)) load since
unfolding available_after material_after
account_behind [] load since m a h loads held =
    let l = key_loaded m a load (holds_true (is_loading load) loads) in
    let r = account_from since (with_command m load) (available_with m a load) h.1 held l.key in
    let first = ap (λ (x : ℕ). last_grant_or x since + signatures_given (up_to_grant since)) l.left in
    record { key = r.key; bytes = r.bytes ∙ l.bytes; balance = r.balance ∙ first }
account_behind (e ∷ before) load since m a h loads held =
    let r = account_behind before load since (with_command m e) (available_with m a e) h.1 loads held in
    record { key = r.key; bytes = r.bytes; balance = r.balance }

pub account_of : (es : List Event) (l : HeldSince es) (m : Material) (a : Available) → EachTested m a es → Account m a es l.load l.since
account_of es l m a =
    subst (λ (x : List Event). EachTested m a x → Account m a x l.load l.since) (sym l.split)
    (λ h. account_behind l.before l.load l.since m a h l.loads l.held)

-- a loading behind one command more
behind : {es : List Event} (e : Event) → HeldSince es → HeldSince (e ∷ es)
behind e l = record {
  before = e ∷ l.before;
  load = l.load;
  since = l.since;
  split = ap (λ (x : List Event). e ∷ x) l.split;
  loads = l.loads;
  held = l.held;
}

-- a key that is available after commands was before them, and all keep it, or was loaded by one of them and is held since
pub loaded_by : (es : List Event) (m : Material) (a : Available) → (available_after m a es).key ≡ true
    → ((a.key ≡ true) × T (all keeps_key es)) ⊎ HeldSince es
unfolding available_after
loaded_by [] m a t = inl (t, tt)
loaded_by (e ∷ es) m a t =
    ⊎_elim
    (λ x. by_test (keeps_key e)
    (λ k. inl (sym (key_kept m a e (true_holds k)).key ∙ x.0, rw k x.1))
    (λ k. by_test (is_loading e)
    (λ l. inr (record { before = []; load = e; since = es; split = refl; loads = true_holds l; held = x.1 }))
    (λ l. absurd (true≢false (sym x.0 ∙ key_forgotten m a e k l)))))
    (λ l. inr (behind e l))
    (loaded_by es (with_command m e) (available_with m a e) t)
