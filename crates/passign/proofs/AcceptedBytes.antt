-- The bytes of an accepted signing: as many as the set says, with entries that are allowed, and they mean its signature.
-- Assumes nothing.
use mathlib.Core.Path.{◌≡◌, sym, ap, ap₂, ◌∙◌}
use mathlib.Core.Bool.{true}
use mathlib.Core.List.{List}
use Prim.Native.Nat.{ℕ, ◌-◌, ◌≤◌}
use native.Mathlib.Nat.{le_of_eq}
use native.Mathlib.Omega.{arith}
use lib.Dec.{ltb, leb, lt→ltb, leb→le}
use lib.IntN.{ℤ, nat_abs}
use lib.ListN.{length}
use lib.Signed.{mag}
use Rattle.algebra.proofs.All.{all_weaker}
use Rattle.algebra.proofs.Test.{holds_true}
use Rattle.parameters.specs.declared.Params.{Params}
use Rattle.polynomial.specs.Evaluation.{evaluation_residues}
use Rattle.polynomial.specs.Sparse.{Sparse}
use Rattle.polynomial.proofs.Linear.{length_z}
use Rattle.encoding.specs.Challenge.{entries_of, are_entries, challenge_of}
use Rattle.encoding.specs.Encoding.{key_of, signature_size, SignatureRange, entries_read, z_read}
use Rattle.encoding.proofs.EntryCount.{length_entries}
use Rattle.encoding.proofs.Sign.{mag-le}
use Rattle.encoding.proofs.OneEncoding.{entries_read_back, z_read_back, signature_length, entries_accepted, entries_below, challenge_read_back}
use Rattle.scheme.specs.Scheme.{Drawers, Signed}
use Rattle.refusal.specs.Answer.{set_byte}
use Rattle.signing.specs.Signer.{mask_at, signature_of}
use Rattle.signing.specs.Sign.{sign_written_in}
use Rattle.signing.proofs.OfferedMasks.{mask_size}
use Rattle.signing.proofs.AcceptedSigning.{SignedAs, signed_bytes_lem, size_of_key, offered, passes_of}
use Rattle.checking.specs.Check.{body_read, signature_read}
use Rattle.passign.specs.Hiding.{Encodable}

module _ {draw : Drawers} {rule : ℕ} {p : Params} {key exponents : List ℕ} {masks : List ℤ} {message out : List ℕ} {r : Signed} {i : ℕ}
    (a : SignedAs draw rule p key exponents masks message out r i) (e : Encodable (draw rule) p) where
  -- its challenge and its point, and the bytes
  abbrev c : List ℤ
  c = r.signature.c

  abbrev z : List ℤ
  z = r.signature.z

  abbrev bytes : List ℕ
  bytes = sign_written_in draw rule p key exponents masks message out

  pub sparse_challenge : Sparse p c
  sparse_challenge = e.draws (evaluation_residues p (mask_at p masks i) exponents) message c (passes_of a).challenge

  few : length c ≤ 32768
  few = omega (arith, sparse_challenge.size, e.fitting.size)

  range : SignatureRange p (entries_of c) z
  range =
      let size = mask_size p masks i (offered a) in
      record {
        entries_length = length_entries 0 c ∙ sparse_challenge.exact;
        entries_below = entries_below c few;
        z_length = ap length (passes_of a).is_z ∙ length_z (key_of key) c (mask_at p masks i) (le_of_eq (size_of_key a ∙ sym size)) ∙ size;
        z_signed =
            all_weaker (λ (x : ℤ). leb (nat_abs x) (p.k - p.b)) (λ (x : ℤ). ltb (mag x) 32768)
            (λ x t. lt→ltb (mag x) 32768 (omega (arith, mag-le x, leb→le (nat_abs x) (p.k - p.b) t, e.fitting.mask))) z (passes_of a).range;
      }

  pub bytes_size : length bytes ≡ signature_size p
  unfolding signature_of
  bytes_size = ap length (signed_bytes_lem a) ∙ signature_length p (set_byte key) (entries_of c) z range

  entries_back : entries_read p bytes ≡ entries_of c
  unfolding signature_of
  entries_back = ap (entries_read p) (signed_bytes_lem a) ∙ entries_read_back p (set_byte key) (entries_of c) z range

  z_back : z_read p bytes ≡ z
  unfolding signature_of
  z_back = ap (z_read p) (signed_bytes_lem a) ∙ z_read_back p (set_byte key) (entries_of c) z range

  pub entries_allowed : are_entries p.n (entries_read p bytes) ≡ true
  entries_allowed = rw (entries_back, ← sparse_challenge.size) (holds_true (are_entries (length c) (entries_of c)) (entries_accepted c few))

  challenge_back : challenge_of p.n (entries_read p bytes) ≡ c
  challenge_back = rw (entries_back, ← sparse_challenge.size) (challenge_read_back c few sparse_challenge.small)

  -- the bytes mean the signature
  pub meaning : signature_read p bytes ≡ r.signature
  unfolding body_read entries_read z_read
  meaning = ap₂ (λ (c z : List ℤ). record { c = c; z = z }) challenge_back z_back
