-- Document 01, "The session file" and "Refusals", and document 02: the table of the commands: their bytes, which of them need a set (else 3), how long their
-- operands are, and what must be held (else 10).
-- Assumes nothing.
use Rattle.std.specs.Prelude.{Bool, true, false, ◌&&◌, cond, List, [], ◌∷◌, ℕ, ◌+◌, ◌*◌, eqb}
use Rattle.std.proofs.Math.Option.{Option, none, some}
use Rattle.parameters.specs.declared.Params.{Params}
use Rattle.session_rules.specs.Held.{Held, is_held}

pub record Command : Type 0 where
  pub byte : ℕ
  pub needs_set : Bool
  -- the bytes of its operand, in the set in force
  pub size : Params → ℕ
  -- what it needs is held
  pub needs : Held → Bool

abbrev pub entry : ℕ → Bool → (Params → ℕ) → (Held → Bool) → Command
entry byte needsSet size needs = record { byte = byte; needs_set = needsSet; size = size; needs = needs }

-- nothing is needed; points; points, key, message; points, evaluations, message; a key
abbrev pub nothing_needed : Held → Bool
nothing_needed h = true

abbrev pub for_loading : Held → Bool
for_loading h = is_held h.exponents

abbrev pub for_signing : Held → Bool
for_signing h = is_held h.exponents && (is_held h.key && is_held h.message)

abbrev pub for_checking : Held → Bool
for_checking h = is_held h.exponents && (is_held h.evaluations && is_held h.message)

abbrev pub for_granting : Held → Bool
for_granting h = is_held h.key

unfoldable pub command_table : List Command
command_table =
    entry 0x00 false (λ (p : Params). 0) nothing_needed
    ∷ entry 0x01 false (λ (p : Params). 1) nothing_needed
    ∷ entry 0x02 true (λ (p : Params). 2 * p.t) nothing_needed
    ∷ entry 0x03 true (λ (p : Params). p.n) for_loading
    ∷ entry 0x04 true (λ (p : Params). 2 * p.n) nothing_needed
    ∷ entry 0x05 true (λ (p : Params). 64) nothing_needed
    ∷ entry 0x06 true (λ (p : Params). 0) for_signing
    ∷ entry 0x07 true (λ (p : Params). 2 * p.b + 2 * p.n) for_checking
    ∷ entry 0x08 true (λ (p : Params). 3 * p.t) for_loading
    ∷ entry 0x0A true (λ (p : Params). 2) for_granting
    ∷ entry 0x0B false (λ (p : Params). 1) nothing_needed
    ∷ []

-- the first entry with byte b
abbrev pub find : ℕ → List Command → Option Command
find b [] = none
find b (x ∷ xs) = cond (eqb b x.byte) (some x) (find b xs)

-- the entry of a byte; of a byte that is no command, one that needs nothing and has no operand
abbrev pub or_unknown : ℕ → Option Command → Command
or_unknown b none = entry b false (λ (p : Params). 0) nothing_needed
or_unknown b (some x) = x

unfoldable pub is_known : ℕ → Bool
is_known b = is_held (find b command_table)

unfoldable pub command_of : ℕ → Command
command_of b = or_unknown b (find b command_table)
