-- The signature of an accepted signing: its bytes are bytes.
-- Assumes nothing.
use mathlib.Core.Path.{◌≡◌, ◌∙◌}
use mathlib.Core.List.{◌++◌, map}
use Prim.Native.Nat.{ℕ, ◌<◌}
use native.Mathlib.Omega.{arith}
use lib.Dec.{T, ltb, lt→ltb}
use borrow.Author.Tests.{ltb-true}
use Rattle.algebra.proofs.Test.{and_intro}
use Rattle.parameters.specs.Sets.{set_of}
use Rattle.challenge.specs.Draw.{draw_challenge}
use Rattle.algebra.specs.All.{are_below}
use Rattle.encoding.specs.Bytes.{encoded, bits16}
use Rattle.encoding.proofs.Writing.{below_append, encoded_below}
use Rattle.encoding.specs.Challenge.{entries_of}
use Rattle.encoding.specs.Encoding.{signature_bytes}
use Rattle.scheme.specs.Scheme.{Signed, Signature}
use Rattle.signing.specs.Signer.{signature_of}
use Rattle.refusal.specs.Signing as signing
use Rattle.refusal.specs.Answer.{set_byte}
use Rattle.passign.specs.Hiding.{Call, our_library}
use Rattle.signing.proofs.AcceptedSigning.{SignedAs, accepted_signing, signed_bytes_lem}
use Rattle.passign.proofs.Entry.{SignedInSet, sign_entry}

signature_bytes_below : (set : ℕ) (s : Signature) → set < 256 → T (are_below 256 (signature_of set s))
unfolding signature_of signature_bytes
signature_bytes_below set s h =
    and_intro (ltb set 256) (are_below 256 (encoded 2 (entries_of s.c) ++ encoded 2 (map bits16 s.z))) (lt→ltb set 256 h)
    (below_append (encoded 2 (entries_of s.c)) (encoded 2 (map bits16 s.z)) (encoded_below 2 (entries_of s.c)) (encoded_below 2 (map bits16 s.z)))

module _ (call : Call) {i : ℕ} (e : our_library.signs call ≡ signing.Signed i) where
  abbrev set : ℕ
  set = set_byte call.key

  -- the signing in its set, and the signature behind the bytes
  in_set : SignedInSet call.rule call.key call.exponents call.masks call.message call.out i
  in_set = sign_entry call.rule call.key call.exponents call.masks call.message call.out e

  known : set < 5
  known = ltb-true set 5 in_set.known.set.set

  behind : (r : Signed) × SignedAs draw_challenge call.rule (set_of set) call.key call.exponents call.masks call.message call.out r i
  behind = accepted_signing draw_challenge call.rule (set_of set) call.key call.exponents call.masks call.message call.out in_set.answer

  pub signature_below : T (are_below 256 (our_library.writes call))
  signature_below = rw (in_set.written ∙ signed_bytes_lem behind.1) (signature_bytes_below set behind.0.signature (omega (arith, known)))
