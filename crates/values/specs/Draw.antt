-- The entry `draw`: refusals 2, 1, 11, then the challenge. A pool has 64 to 512 bytes, a multiple of 64.
-- Assumes nothing.
use Rattle.std.specs.Prelude.{Bool, not, ◌&&◌, cond, List, ℕ, ◌%◌, leb, eqb, ℤ, length}
use Rattle.std.proofs.Math.Option.{Option, none, some}
use Rattle.parameters.specs.declared.Params.{Params}
use Rattle.parameters.specs.Sets.{set_of}
use Rattle.challenge.specs.Draw.{draw}
use Rattle.refusal.specs.Answer.{in_set, unless_refused}
use Rattle.refusal.specs.Numbers.{wrong_length, pool_spent}

abbrev pub is_pool_size : ℕ → Bool
is_pool_size n = leb 64 n && (leb n 512 && eqb (n % 64) 0)

-- the lengths: of the pool, and of the buffer for N coefficients
abbrev pub draw_lengths : Params → ℕ → ℕ → Bool
draw_lengths p pool room = is_pool_size pool && eqb room p.n

-- by what the pool yields: the refusal, and the buffer after it
abbrev pub drawn_refusal : Option (List ℤ) → ℕ
drawn_refusal none = pool_spent
drawn_refusal (some c) = 0

abbrev pub drawn_over : Option (List ℤ) → List ℤ → List ℤ
drawn_over none out = out
drawn_over (some c) out = c

unfoldable pub draw_refusal : ℕ → List ℕ → List ℤ → ℕ
draw_refusal s pool out =
    in_set s (λ (p : Params). cond (not (draw_lengths p (length pool) (length out))) wrong_length (drawn_refusal (draw p pool)))

unfoldable pub draw_written : ℕ → List ℕ → List ℤ → List ℤ
draw_written s pool out = unless_refused (draw_refusal s pool out) (drawn_over (draw (set_of s) pool) out) out
