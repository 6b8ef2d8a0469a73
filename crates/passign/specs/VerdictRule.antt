-- The paper's rule (section 3.3) of what the bytes of a check mean.
-- Assumes nothing.
use Rattle.std.specs.Prelude.{List, ℕ}
use Rattle.parameters.specs.declared.Params.{Params}
use Rattle.encoding.specs.Encoding.{exponents_of, evaluations_of}
use Rattle.scheme.specs.Scheme.{Drawer}
use Rattle.scheme.specs.Verdict.{Valid}
use Rattle.checking.specs.Check.{signature_read}

-- the signature that the bytes mean is one of the message under the public key
abbrev pub Rule : Drawer → Params → List ℕ → List ℕ → List ℕ → Type 0
Rule draw p key message signature = Valid draw p (exponents_of p key) message (evaluations_of p key) (signature_read p signature)
