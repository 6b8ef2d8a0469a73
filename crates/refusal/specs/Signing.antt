-- What a signing answers, in document 01's words.
-- Assumes nothing.
use Rattle.std.specs.Prelude.{ℕ}

-- the number of masks passed over before the one that signed, or the refusal number
pub data Signing : Type 0 where
  Signed : ℕ → Signing
  Refused : ℕ → Signing
