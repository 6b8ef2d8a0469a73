-- What the code that joins digests asks.
-- Assumes nothing.
use Rattle.std.specs.Prelude.{◌≡◌, List, [], ℕ, ◌<◌, length, get_or}

-- each element has the 64 bytes of a digest
abbrev pub DigestSizes : List (List ℕ) → Type 0
DigestSizes ds = (k : ℕ) → k < length ds → length (get_or ds k []) ≡ 64
