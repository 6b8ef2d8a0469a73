-- What an accepted signing is, and what a refusal with 9 is: the first mask that passes signs, or none passes.
-- Over any parameter set and any way to draw.
-- Assumes nothing.
use Rattle.std.specs.Prelude.{◌≡◌, List, ℕ, ◌<◌, ℤ, take}
use Rattle.std.proofs.Math.Option.{Option, none, some}
use Rattle.parameters.specs.declared.Params.{Params}
use Rattle.encoding.specs.Encoding.{key_of}
use Rattle.scheme.specs.Scheme.{Drawer, Signature, attempt}
use Rattle.scheme.specs.FirstPassing.{failures}
use Rattle.signing.specs.Signer.{offered_count, masks_of, mask_at, signature_of}
use Rattle.refusal.specs.Answer.{set_byte}

module _ (draw : Drawer) (p : Params) (key exponents : List ℕ) (masks : List ℤ) (message : List ℕ) where
  -- what mask number i gives with the key
  abbrev pub attempt_at : ℕ → Option Signature
  attempt_at i = attempt draw p exponents message (key_of key) (mask_at p masks i)

  -- the count of the first i masks that fail
  abbrev pub failures_before : ℕ → ℕ
  failures_before i = failures draw p exponents message (key_of key) (take i (masks_of p masks))

  -- mask number i is offered and the first that passes, with the signature s
  pub record FirstMask (s : Signature) (i : ℕ) : Type 0 where
    pub offered : i < offered_count p masks
    pub passes : attempt_at i ≡ some s
    pub earlier : (j : ℕ) → j < i → attempt_at j ≡ none

  -- no mask that is offered passes
  abbrev pub NonePassing : Type 0
  NonePassing = (j : ℕ) → j < offered_count p masks → attempt_at j ≡ none

  -- mask number i signs with these bytes: it is the first that passes, the number of masks before it is the count of those that fail, and the
  -- bytes are its signature's
  pub record FirstSigning (written : List ℕ) (i : ℕ) : Type 0 where
    pub signature : Signature
    pub first : FirstMask signature i
    pub counts : failures_before i ≡ i
    pub bytes : written ≡ signature_of (set_byte key) signature
