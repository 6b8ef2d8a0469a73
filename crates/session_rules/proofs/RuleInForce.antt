-- The rule in force (document 02, #106), over any list of plays of a file from a session just opened: after them it is that of the last accepted 0B among the
-- commands, 1 before any, and it is 1 or 2; and the rule that a 06 signs under, and a 07 judges by, is that of the commands before it.
-- Assumes nothing.
use mathlib.Core.Path.{◌≡◌, refl, ap, ◌∙◌}
use mathlib.Core.Bool.{cond, and-true, and-false}
use mathlib.Core.List.{List, [], ◌∷◌}
use Prim.Native.Nat.{ℕ}
use lib.Dec.{eqb}
use lib.ListN.{get_or}
use borrow.Author.Tests.{eqb-true}
use Rattle.algebra.proofs.Test.{cond_by, by_test}
use Rattle.refusal.specs.Numbers.{none_passes}
use Rattle.session_rules.specs.Play.{opened}
use Rattle.session_rules.specs.Plays.{Event, Material, no_material, is_accepted, events, with_accepted, with_command}
use Rattle.session_rules.specs.HeldIsRead.{material_after, material_read}
use Rattle.session_rules.specs.After.{after}
use Rattle.session_rules.specs.RuleInForce.{last_rule_or, last_rule, RuleInForce}
use Rattle.session_rules.proofs.Reaching.{kept_after}

-- what an accepted command does to the rule that is read
accepted_rule : (m : Material) (b : ℕ) (op : List ℕ) → (with_accepted m b op).rule ≡ cond (eqb b 11) (get_or op 0 0) m.rule
unfolding with_accepted
accepted_rule m b op =
    let same : Material → Type 0 = λ (x : Material). x.rule ≡ m.rule in
    by_test (eqb b 11) (λ t. rw (eqb-true b 11 t))
    (λ t. rw t
    (cond_by same (eqb b 1) (λ u. refl) (λ u. cond_by same (eqb b 2) (λ v. refl) (λ v. cond_by same (eqb b 3) (λ x. refl)
    (λ x. cond_by same (eqb b 4) (λ y. refl) (λ y. cond_by same (eqb b 5) (λ z. refl) (λ z. cond_by same (eqb b 6) (λ s. refl) (λ s. refl))))))))

-- and any command
command_rule : (m : Material) (e : Event) → (with_command m e).rule ≡ cond (is_accepted 0x0B e) (get_or e.operand 0 0) m.rule
unfolding with_command
command_rule m e =
    by_test (eqb e.number 0) (λ z. rw (z, and-true (eqb e.byte 11)) (accepted_rule m e.byte e.operand))
    (λ z. rw (z, and-false (eqb e.byte 11)) (by_test (eqb e.number none_passes) (λ n. rw n) (λ n. rw n)))

rule_after : (m : Material) (es : List Event) → (material_after m es).rule ≡ last_rule_or m.rule es
unfolding material_after
rule_after m [] = refl
rule_after m (e ∷ es) = rule_after (with_command m e) es ∙ ap (λ (rule : ℕ). last_rule_or rule es) (command_rule m e)

rule_read : (es : List Event) → (material_read es).rule ≡ last_rule es
unfolding no_material
rule_read es = rule_after no_material es

pub rule_in_force : (file : List ℕ) (buffers : List (List ℕ)) → RuleInForce (events file buffers) (after opened file buffers).held
rule_in_force file buffers =
    let w = (kept_after file buffers).rule in
    let is = rule_read (events file buffers) in
    record { held = w.0 ∙ is; known = rw is at w.1.known; read = λ before rest e. rule_read before }
