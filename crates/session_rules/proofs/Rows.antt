-- The text of rows: how long it is, that it ends at its line feed, and the signature bytes read back from a row.
-- Assumes nothing.
use mathlib.Core.Path.{◌≡◌, refl, ap, ap₂, ◌∙◌}
use mathlib.Core.List.{List, [], ◌∷◌, ◌++◌, append_assoc}
use Prim.Native.Nat.{ℕ, suc, ◌+◌, ◌*◌, ◌/◌, ◌%◌, ◌≤◌, ◌<◌}
use native.Mathlib.Nat.{div-add-mod'}
use native.Mathlib.Omega.{arith}
use lib.Dec.{T, ltb, ltb→lt}
use lib.ListN.{length, length-append}
use borrow.Author.Tests.{ltb-true, ltb-false, lt-ltb, le-ltb, ne_eqb}
use Rattle.algebra.specs.All.{all, are_below}
use Rattle.algebra.proofs.Test.{and_left, and_right, by_test}
use Rattle.text.specs.Text.{decimal, hex_digit, hex, spaced}
use Rattle.text.proofs.Text.{length-decimal, length-hex, is_visible, visible_decimal, visible_digit, visible_hex}
use Rattle.text.proofs.Text.{is_inside, inside, inside_append, inside_integers}
use Rattle.session_rules.specs.Commands.{Payload, nothing, values, signed, judged}
use Rattle.session_rules.specs.Rows.{payload_text, row_text, row_size}
use Rattle.session_rules.specs.Plays.{after_space, hex_value, unhex, printed_signature}

pub length_row : (ordinal byte number : ℕ) (x : Payload) → length (payload_text x) ≤ 13900 → length (row_text ordinal byte number x) ≤ 16384
unfolding row_text
length_row ordinal byte number x h =
    simp length-append (omega (arith, length-decimal ordinal, length-hex (byte ∷ []), length-decimal number))

-- ---- a row ends at its line feed

pub inside_payload : (x : Payload) → T (all is_inside (payload_text x))
inside_payload nothing = tt
inside_payload (values es) = inside_integers es
inside_payload (signed i bytes) =
    inside_append (spaced (decimal i)) (spaced (hex bytes)) (inside (decimal i) (visible_decimal i)) (inside (hex bytes) (visible_hex bytes))
inside_payload (judged v) = inside (decimal v) (visible_decimal v)

-- l is a row's text from some place on: its first line feed is its last character
abbrev pub RowTail : List ℕ → Type 0
RowTail l = (rest : List ℕ) → row_size (l ++ rest) ≡ length l

pub tail_more : (l m : List ℕ) → T (all is_inside l) → RowTail m → RowTail (l ++ m)
unfolding row_size
tail_more [] m t e rest = e rest
tail_more (x ∷ l) m t e rest =
    let h = ltb→lt 10 x (and_left (is_inside x) (all is_inside l) t) in
    rw (ne_eqb x 10 (λ i. omega arith)) (ap suc (tail_more l m (and_right (is_inside x) (all is_inside l) t) e rest))

pub tail_feed : RowTail (10 ∷ [])
unfolding row_size
tail_feed rest = refl

-- ---- hex digits read back

value_of_digit : (n : ℕ) → n < 16 → hex_value (hex_digit n) ≡ n
value_of_digit n h =
    by_test (ltb n 10)
    (λ t. let l = ltb-true n 10 t in rw t (rw (lt-ltb (48 + n) 58 (omega arith)) (omega arith)))
    (λ t. let l = ltb-false n 10 t in rw t (rw (le-ltb (55 + n) 58 (omega arith)) (omega arith)))

unhex_end : (rest : List ℕ) → unhex (10 ∷ rest) ≡ []
unhex_end [] = refl
unhex_end (y ∷ rest) = refl

unhex-hex : (xs rest : List ℕ) → T (are_below 256 xs) → unhex (hex xs ++ (10 ∷ rest)) ≡ xs
unfolding hex
unhex-hex [] rest t = unhex_end rest
unhex-hex (x ∷ xs) rest t =
    let b = ltb→lt x 256 (and_left (ltb x 256) (are_below 256 xs) t) in
    rw (ne_eqb (hex_digit (x / 16)) 10 (λ e. omega (arith, visible_digit (x / 16))))
    (ap₂ (λ (v : ℕ) (l : List ℕ). v ∷ l)
    (ap₂ (λ (u v : ℕ). u * 16 + v) (value_of_digit (x / 16) (omega arith)) (value_of_digit (x % 16) (omega arith)) ∙ div-add-mod' x 16)
    (unhex-hex xs rest (and_right (ltb x 256) (are_below 256 xs) t)))

-- ---- fields are parted by a space

after_field : (field rest : List ℕ) → T (all is_visible field) → after_space (field ++ (32 ∷ rest)) ≡ rest
after_field [] rest t = refl
after_field (x ∷ field) rest t =
    let h = ltb→lt 32 x (and_left (is_visible x) (all is_visible field) t) in
    rw (ne_eqb x 32 (λ e. omega arith)) (after_field field rest (and_right (is_visible x) (all is_visible field) t))

-- what follows the field f and a space
behind_field : (f l rest : List ℕ) → T (all is_visible f) → after_space ((f ++ spaced l) ++ rest) ≡ l ++ rest
behind_field f l rest t = ap after_space (append_assoc f (spaced l) rest) ∙ after_field f (l ++ rest) t

-- the fifth field of five, whatever lies behind them
fifth_field : (a b c d e rest : List ℕ) → T (all is_visible a) → T (all is_visible b) → T (all is_visible c) → T (all is_visible d)
    → after_space (after_space (after_space (after_space ((a ++ (spaced b ++ (spaced c ++ ((spaced d ++ spaced e) ++ (10 ∷ []))))) ++ rest)))) ≡ e ++ (10 ∷ rest)
fifth_field a b c d e rest s t u v =
    let last = (d ++ spaced e) ++ (10 ∷ []) in
    cc (
      behind_field a (b ++ spaced (c ++ spaced last)) rest s,
      behind_field b (c ++ spaced last) rest t,
      behind_field c last rest u,
      append_assoc d (spaced e) (10 ∷ []),
      behind_field d (e ++ (10 ∷ [])) rest v,
      append_assoc e (10 ∷ []) rest,
    )

-- the signature in the row of an accepted 06, whatever lies behind the row
pub printed_back : (ordinal byte number i : ℕ) (bytes rest : List ℕ) → T (are_below 256 bytes)
    → printed_signature (row_text ordinal byte number (signed i bytes) ++ rest) ≡ bytes
unfolding printed_signature row_text
printed_back ordinal byte number i bytes rest t =
    ap unhex
    (fifth_field (decimal ordinal) (hex (byte ∷ [])) (decimal number) (decimal i) (hex bytes) rest
    (visible_decimal ordinal) (visible_hex (byte ∷ [])) (visible_decimal number) (visible_decimal i))
    ∙ unhex-hex bytes rest t
