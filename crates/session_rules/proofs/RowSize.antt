-- A row ends at its line feed and nowhere before it: whoever is lent the buffer after a play finds the row's size there.
-- Assumes nothing.
use mathlib.Core.Path.{◌≡◌}
use mathlib.Core.List.{List, [], ◌∷◌}
use Prim.Native.Nat.{ℕ}
use lib.ListN.{length, drop}
use Rattle.text.specs.Text.{decimal, hex, spaced}
use Rattle.text.proofs.Text.{visible_decimal, visible_hex, inside}
use Rattle.session_rules.specs.Commands.{Payload}
use Rattle.session_rules.specs.Rows.{payload_text, row_text, at_front, row_size}
use Rattle.session_rules.proofs.Rows.{inside_payload, tail_more, tail_feed}

pub row_size_lem : (ordinal byte number : ℕ) (x : Payload) (buffer : List ℕ)
    → row_size (at_front (row_text ordinal byte number x) buffer) ≡ length (row_text ordinal byte number x)
unfolding row_text
row_size_lem ordinal byte number x buffer =
    tail_more (decimal ordinal) _ (inside (decimal ordinal) (visible_decimal ordinal))
    (tail_more (spaced (hex (byte ∷ []))) _ (inside (hex (byte ∷ [])) (visible_hex (byte ∷ [])))
    (tail_more (spaced (decimal number)) _ (inside (decimal number) (visible_decimal number))
    (tail_more (payload_text x) (10 ∷ []) (inside_payload x) tail_feed)))
    (drop (length (row_text ordinal byte number x)) buffer)
