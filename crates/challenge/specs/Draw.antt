-- Document 01, "Hash and challenge": the drawer. A pool is a list of bytes.
-- Assumes nothing.
use Rattle.std.specs.Prelude.{Bool, false, ◌||◌, cond, List, [], ◌∷◌, ◌++◌, ℕ, zero, suc, ◌+◌, ◌-◌, ◌*◌, ◌/◌, ◌%◌, ◌^◌, leb, eqb, ℤ, pos, negsuc, length, get_or, set, take, replicate}
use Rattle.std.specs.Prelude.{Some, None}
use Rattle.std.specs.declared.option.Option as answer
use Rattle.std.proofs.Math.Option.{Option, none, some}
use Rattle.parameters.specs.declared.Params.{Params}
use Rattle.challenge.specs.Pool.{pool}

-- sign i is bit (i mod 8), least significant as bit 0, of byte i/8 rounded down: 0 means +1 and 1 means -1
unfoldable pub sign_at : List ℕ → ℕ → ℤ
sign_at bytes i = cond (eqb (get_or bytes (i / 8) 0 / 2 ^ (i % 8) % 2) 0) (pos 1) (negsuc 0)

-- value m: from byte 8 on, each two bytes, the high byte first
unfoldable pub value_at : List ℕ → ℕ → ℕ
value_at bytes m = get_or bytes (8 + 2 * m) 0 * 256 + get_or bytes (8 + 2 * m + 1) 0

-- how many values there are
abbrev pub value_count : List ℕ → ℕ
value_count bytes = (length bytes - 8) / 2

-- k is marked as taken: it is one of the indices kept
abbrev pub taken : ℕ → List ℕ → Bool
taken k [] = false
taken k (j ∷ js) = eqb k j || taken k js

-- what the value v makes of the indices kept so far. Drawing stops after b indices. A value of at least N times (65536/N rounded down)
-- is skipped; otherwise its index is v mod N, skipped if already marked as taken
unfoldable pub with_value : Params → ℕ → List ℕ → List ℕ
with_value p v js =
    cond (leb p.b (length js)) js
    (cond (leb (p.n * (65536 / p.n)) v) js
    (cond (taken (v % p.n) js) js
    (js ++ (v % p.n ∷ []))))

-- the indices kept of the first m values, in the order drawn
unfoldable pub kept : Params → List ℕ → ℕ → List ℕ
kept p bytes zero = []
kept p bytes (suc m) = with_value p (value_at bytes m) (kept p bytes m)

-- the index kept as number i gets sign i, and so on for those after it
abbrev pub signed : List ℕ → ℕ → List ℕ → List ℤ → List ℤ
signed bytes i [] c = c
signed bytes i (j ∷ js) c = signed bytes (suc i) js (set c j (sign_at bytes i))

-- the challenge with these indices: N coefficients, 0 but for the signs at the indices
unfoldable pub placed : Params → List ℕ → List ℕ → List ℤ
placed p bytes js = signed bytes 0 js (replicate p.n (pos 0))

-- the challenge that a pool yields; none where it is spent: fewer than b indices kept in all of it
unfoldable pub draw : Params → List ℕ → Option (List ℤ)
draw p bytes =
    cond (eqb (length (kept p bytes (value_count bytes))) p.b)
    (some (placed p bytes (kept p bytes (value_count bytes))))
    none

-- the way to draw of each rule: the challenge of a commitment and a message
unfoldable pub draw_challenge : ℕ → Params → List ℕ → List ℕ → Option (List ℤ)
draw_challenge rule p w message = draw p (pool rule w message)

-- what the drawer's answer says: its first N coefficients, or that the pool is spent
abbrev pub drawn_of : Params → answer.Option (List ℤ) → Option (List ℤ)
drawn_of p None = none
drawn_of p (Some c) = some (take p.n c)
