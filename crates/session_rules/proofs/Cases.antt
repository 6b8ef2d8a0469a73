-- A play that writes a row, by its cases: a row before the first command, a refusal that ends the session, an accepted 00, and a command that goes on.
-- Assumes nothing.
use mathlib.Core.Path.{◌≡◌, refl, subst}
use mathlib.Core.Bool.{true, false, not, cond}
use mathlib.Core.List.{List}
use mathlib.Core.Option.{Option}
use Prim.Native.Nat.{ℕ, ◌+◌, ◌≤◌, ◌<◌}
use native.Mathlib.Omega.{arith}
use lib.Dec.{ltb, leb, eqb}
use lib.ListN.{length, length-drop}
use lib.Seq.{length-take-le}
use borrow.Author.Tests.{leb-false, ltb-true, ltb-false, eqb-true, eqb-false, eq-eqb, ne_eqb, not-false}
use Rattle.algebra.proofs.Test.{cond_by}
use Rattle.session_rules.specs.Held.{Chosen}
use Rattle.session_rules.specs.CommandTable.{is_known}
use Rattle.session_rules.specs.Play.{is_tagged, lacks_set, byte_due, size_due, operand_due, refusal_due}
use Rattle.session_rules.specs.Play.{Session, Step, ends_before, ends_at, end_command, going_command, command_step, step}
use Rattle.session_rules.specs.Ordinals.{is_before_first, BeforeFirst}
use Rattle.session_rules.specs.Refusals.{is_ending}

-- n is a refusal that ends a session
pub record EndingRefusal (n : ℕ) : Type 0 where
  pub refusal : eqb n 0 ≡ false
  pub no_nine : eqb n 9 ≡ false
  pub ending : true ≡ is_ending n

ending : (n : ℕ) → eqb n 0 ≡ false → eqb n 9 ≡ false → true ≡ is_ending n → EndingRefusal n
ending n z q e = record { refusal = z; no_nine = q; ending = e }

module _ (file : List ℕ) (at : ℕ) (set : Option Chosen) where
  -- no refusal is due: the file has a command there, it is known, has the set that it needs, and its operand lies whole in the file
  pub record Allowed : Type 0 where
    pub inside : at < length file
    pub known : is_known (byte_due file at) ≡ true
    pub needs : lacks_set (byte_due file at) set ≡ false
    pub whole : at + 1 + size_due file at set ≤ length file

  -- the refusal due, by the tests in order
  due_by : (Q : ℕ → Type 0) → ((n : ℕ) → EndingRefusal n → Q n) → (Allowed → Q 0) → Q (refusal_due file at set)
  unfolding refusal_due
  due_by Q refuses plays =
      let b = byte_due file at in
      let next = at + 1 + size_due file at set in
      cond_by Q (leb (length file) at) (λ e. refuses 13 (ending 13 refl refl refl))
      (λ e. cond_by Q (not (is_known b)) (λ k. refuses 14 (ending 14 refl refl refl))
      (λ k. cond_by Q (lacks_set b set) (λ n. refuses 3 (ending 3 refl refl refl))
      (λ n. cond_by Q (ltb (length file) next) (λ l. refuses 13 (ending 13 refl refl refl))
      (λ l. plays (record {
        inside = leb-false (length file) at e;
        known = not-false (is_known b) k;
        needs = n;
        whole = ltb-false (length file) next l;
      })))))

  pub allowed : refusal_due file at set ≡ 0 → Allowed
  allowed = due_by (λ (n : ℕ). n ≡ 0 → Allowed) (λ n e z. absurd (eqb-false n 0 e.refusal z)) (λ a z. a)

-- the operand lies whole in the file
pub operand_whole : (file : List ℕ) (at size : ℕ) → at + 1 + size ≤ length file → length (operand_due file at size) ≡ size
operand_whole file at size h = length-take-le size _ (simp length-drop (omega arith))

-- the place of the command due: behind the tag at the first play
abbrev pub place_due : Session → ℕ
place_due s = cond (ltb 0 s.place) s.place 4

-- the command due goes on: it is not refused, and is not 00
pub record CommandDue (s : Session) (file : List ℕ) : Type 0 where
  pub behind : is_before_first s file ≡ false
  pub later : s.place ≤ place_due s
  pub allowed : Allowed file (place_due s) s.held.set
  pub nonzero : byte_due file (place_due s) ≡ 0 → ⊥

module _ (s : Session) (file : List ℕ) (P : Step → Type 0)
    (before : (n : ℕ) → EndingRefusal n → is_before_first s file ≡ true → BeforeFirst file (ends_before s n) → P (ends_before s n))
    (refuses : (n : ℕ) → EndingRefusal n → is_before_first s file ≡ false → P (ends_at s (byte_due file (place_due s)) n))
    (finishes : is_before_first s file ≡ false → byte_due file (place_due s) ≡ 0 → P (ends_at s 0 0))
    (goes : CommandDue s file → P (going_command s file (place_due s) (size_due file (place_due s) s.held.set))) where
  command_by : is_before_first s file ≡ false → s.place ≤ place_due s → P (command_step s file (place_due s))
  unfolding command_step
  command_by behind later =
      let at = place_due s in
      let b = byte_due file at in
      due_by file at s.held.set
      (λ (n : ℕ). P (cond (not (eqb n 0)) (ends_at s b n) (cond (eqb b 0) (end_command s file at) (going_command s file at (size_due file at s.held.set)))))
      (λ n e. rw e.refusal (refuses n e behind))
      (λ a. cond_by P (eqb b 0)
      (λ z.
      let zero = eqb-true b 0 z in
      cond_by (λ (n : ℕ). P (ends_at s 0 n)) (eqb (length file) (at + 1)) (λ e. finishes behind zero)
      (λ e. subst (λ (byte : ℕ). P (ends_at s byte 16)) zero (refuses 16 (ending 16 refl refl refl) behind)))
      (λ z. goes (record { behind = behind; later = later; allowed = a; nonzero = eqb-false b 0 z })))

  pub step_by : P (step s file)
  unfolding step
  step_by =
      cond_by P (ltb 0 s.place)
      (λ e.
      rw e at (command_by (rw (ne_eqb s.place 0 (λ z. omega (arith, ltb-true 0 s.place e)))) (rw e (omega arith))))
      (λ e.
      let zero = ltb-false 0 s.place e in
      let first = eq-eqb s.place 0 (omega arith) in
      cond_by P (ltb 65536 (length file))
      (λ l. before 1 (ending 1 refl refl refl) (rw (first, l)) (record { ordinal = refl; byte = refl; number = rw l }))
      (λ l. cond_by P (not (is_tagged file))
      (λ g. before 15 (ending 15 refl refl refl) (rw (first, l, g)) (record { ordinal = refl; byte = refl; number = rw l }))
      (λ g. rw e at (command_by (rw (first, l, g)) (rw e (omega arith))))))
