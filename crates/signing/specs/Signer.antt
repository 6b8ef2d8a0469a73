-- Signing with masks that lie one after the other, and the bytes of the signature.
-- Assumes nothing.
use Rattle.std.specs.Prelude.{List, ℕ, ◌*◌, ◌/◌, ℤ, length, take, drop}
use Rattle.std.proofs.Math.Option.{Option, none, some}
use Rattle.parameters.specs.declared.Params.{Params}
use Rattle.encoding.specs.Bytes.{parts}
use Rattle.encoding.specs.Challenge.{entries_of}
use Rattle.encoding.specs.Encoding.{signature_bytes}
use Rattle.scheme.specs.Scheme.{Drawer, Signature, Signed, signing}

-- how many masks are offered that lie one after the other, N numbers each
abbrev pub offered_count : Params → List ℤ → ℕ
offered_count p masks = length masks / p.n

-- all of them
abbrev pub masks_of : Params → List ℤ → List (List ℤ)
masks_of p masks = parts p.n (offered_count p masks) masks

-- mask number i of them
abbrev pub mask_at : Params → List ℤ → ℕ → List ℤ
mask_at p masks i = take p.n (drop (i * p.n) masks)

-- the signature's bytes in the set s: of the challenge its entries
unfoldable pub signature_of : ℕ → Signature → List ℕ
signature_of s r = signature_bytes s (entries_of r.c) r.z

-- the signing that the masks give with the key f: the first that passes signs
unfoldable pub signed_by : Drawer → Params → List ℤ → List ℕ → List ℤ → List ℕ → Option Signed
signed_by draw p f exponents masks message = signing draw p exponents message 0 f (masks_of p masks)

-- a buffer after a signing: the signature's bytes, or as it was where no mask passes
abbrev pub signed_bytes : ℕ → Option Signed → List ℕ → List ℕ
signed_bytes s none out = out
signed_bytes s (some r) out = signature_of s r.signature
