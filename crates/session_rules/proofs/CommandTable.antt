-- The table of the commands: its bytes are 00 to 08, 0A and 0B. At each of them `command_of` computes, so that a claim about them is one claim for each: about
-- all, about those that need a set, and about those that need none.
-- Assumes nothing.
use mathlib.Core.Path.{◌≡◌, refl, sym, subst}
use mathlib.Core.Bool.{true, false, true≢false}
use mathlib.Core.List.{List, [], ◌∷◌}
use mathlib.Core.Option.{Option, none, some}
use Prim.Native.Nat.{ℕ}
use lib.Dec.{eqb}
use borrow.Author.Tests.{eqb-true}
use Rattle.algebra.proofs.Test.{by_test}
use Rattle.parameters.specs.declared.Params.{Params}
use Rattle.session_rules.specs.Held.{Chosen, Held, is_held}
use Rattle.session_rules.specs.CommandTable.{Command, command_table, find, or_unknown, is_known, command_of}
use Rattle.session_rules.specs.Commands.{choose_set, choose_rule, command_in, command}

-- a claim about the byte of each entry is one about every byte that is found
abbrev EachByte : (ℕ → Type 0) → List Command → Type 0
EachByte Q [] = Unit {0}
EachByte Q (x ∷ l) = Q x.byte × EachByte Q l

by_found : (Q : ℕ → Type 0) (l : List Command) → EachByte Q l → (b : ℕ) → is_held (find b l) ≡ true → Q b
by_found Q [] qs b e = absurd (true≢false (sym e))
by_found Q (x ∷ l) qs b e =
    by_test (eqb b x.byte) (λ t. subst Q (sym (eqb-true b x.byte t)) qs.0) (λ t. by_found Q l qs.1 b (rw t at e))

by_known : (Q : ℕ → Type 0) → Q 0 → Q 1 → Q 2 → Q 3 → Q 4 → Q 5 → Q 6 → Q 7 → Q 8 → Q 10 → Q 11 → (b : ℕ) → is_known b ≡ true → Q b
unfolding is_known command_table
by_known Q a b c d e f g h i j k = by_found Q command_table (a, (b, (c, (d, (e, (f, (g, (h, (i, (j, (k, tt)))))))))))

-- a byte that is no command needs no set
needs_known : (b : ℕ) → (command_of b).needs_set ≡ true → is_known b ≡ true
unfolding is_known command_of
needs_known b = known (find b command_table)
  where
    known : (o : Option Command) → (or_unknown b o).needs_set ≡ true → is_held o ≡ true
    known none e = absurd (true≢false (sym e))
    known (some x) e = refl

pub by_needing : (Q : ℕ → Type 0) → Q 2 → Q 3 → Q 4 → Q 5 → Q 6 → Q 7 → Q 8 → Q 10 → (b : ℕ) → (command_of b).needs_set ≡ true → Q b
unfolding command_of command_table
by_needing Q c d e f g h i j b n =
    by_known (λ (b : ℕ). (command_of b).needs_set ≡ true → Q b) (λ n. absurd (true≢false (sym n))) (λ n. absurd (true≢false (sym n)))
    (λ n. c) (λ n. d) (λ n. e) (λ n. f) (λ n. g) (λ n. h) (λ n. i) (λ n. j) (λ n. absurd (true≢false (sym n))) b (needs_known b n) n

pub by_free : (Q : ℕ → Type 0) → Q 0 → Q 1 → Q 11 → (b : ℕ) → is_known b ≡ true → (command_of b).needs_set ≡ false → Q b
unfolding command_of command_table
by_free Q a b k =
    by_known (λ (b : ℕ). (command_of b).needs_set ≡ false → Q b) (λ n. a) (λ n. b) (λ n. absurd (true≢false n)) (λ n. absurd (true≢false n))
    (λ n. absurd (true≢false n)) (λ n. absurd (true≢false n)) (λ n. absurd (true≢false n)) (λ n. absurd (true≢false n)) (λ n. absurd (true≢false n))
    (λ n. absurd (true≢false n)) (λ n. k)

-- all but 00, 01 and 0B need a set
pub needs_set : (b : ℕ) → is_known b ≡ true → (b ≡ 0 → ⊥) → (b ≡ 1 → ⊥) → (b ≡ 11 → ⊥) → (command_of b).needs_set ≡ true
needs_set b known zero one eleven =
    by_test (command_of b).needs_set (λ needs. needs)
    (λ free. absurd (by_free (λ (b : ℕ). (b ≡ 0 → ⊥) → (b ≡ 1 → ⊥) → (b ≡ 11 → ⊥) → ⊥) (λ z o e. z refl) (λ z o e. o refl) (λ z o e. e refl)
    b known free zero one eleven))

-- the operand of a command that needs no set has one size in all of them
pub free_size : (p r : Params) (b : ℕ) → is_known b ≡ true → (command_of b).needs_set ≡ false → (command_of b).size p ≡ (command_of b).size r
unfolding command_of command_table
free_size p r = by_free (λ (b : ℕ). (command_of b).size p ≡ (command_of b).size r) refl refl refl

-- the command of a byte: 01, 0B, or one in the set held
module _ (h : Held) (op : List ℕ) where
  pub command_set : command h 1 op ≡ choose_set h op
  unfolding command
  command_set = refl

  pub command_rule : command h 11 op ≡ choose_rule h op
  unfolding command
  command_rule = refl

  pub command_in_lem : (c : Chosen) → h.set ≡ some c → (b : ℕ) → (command_of b).needs_set ≡ true → command h b op ≡ command_in c h b op
  unfolding command
  command_in_lem c e = by_needing (λ (b : ℕ). command h b op ≡ command_in c h b op) (rw e) (rw e) (rw e) (rw e) (rw e) (rw e) (rw e) (rw e)
