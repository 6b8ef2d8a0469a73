-- What a check answers, in document 01's words.
-- Assumes nothing.
use Rattle.std.specs.Prelude.{ℕ}

-- yes, no, or the refusal number
pub data Verdict : Type 0 where
  Yes : Verdict
  No : Verdict
  Refused : ℕ → Verdict
