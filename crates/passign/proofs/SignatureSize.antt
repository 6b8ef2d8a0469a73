-- A signature has 1 + 2b + 2N bytes: 15, 905, 1,203, 1,597 and 2,379 in sets 0 to 4, and an accepted signing writes just so many.
-- Assumes nothing.
use mathlib.Core.Path.{◌≡◌, refl, ap, ◌∙◌}
use mathlib.Core.List.{List, [], ◌∷◌, map}
use Prim.Native.Nat.{ℕ, ◌+◌, ◌*◌}
use lib.IntN.{ℤ}
use lib.ListN.{length}
use borrow.Author.Tests.{ltb-true}
use Rattle.parameters.specs.declared.Params.{Params}
use Rattle.parameters.specs.Sets.{sets, set_of}
use Rattle.challenge.specs.Draw.{draw_challenge}
use Rattle.encoding.specs.Encoding.{signature_size}
use Rattle.refusal.specs.Signing as signing
use Rattle.refusal.specs.Answer.{set_byte, set_in}
use Rattle.signing.specs.Sign.{sign_answer, sign_written}
use Rattle.signing.proofs.AcceptedSigning.{accepted_signing}
use Rattle.passign.proofs.AcceptedBytes.{bytes_size}
use Rattle.passign.proofs.FiveSets.{set_encodable}
use Rattle.passign.proofs.Entry.{sign_entry}

pub size_of_signature : (p : Params) → signature_size p ≡ 1 + 2 * p.b + 2 * p.n
size_of_signature p = refl

pub sizes_of_signatures : map (λ (s : ℕ). signature_size (set_of s)) (0 ∷ 1 ∷ 2 ∷ 3 ∷ 4 ∷ []) ≡ 15 ∷ 905 ∷ 1203 ∷ 1597 ∷ 2379 ∷ []
unfolding set_of sets
sizes_of_signatures = refl

-- the entry, in the set of the key's first byte
pub entry_signature_size : (rule : ℕ) (key exponents : List ℕ) (masks : List ℤ) (message out : List ℕ) {i : ℕ}
    → sign_answer rule key exponents masks message out ≡ signing.Signed i
    → length (sign_written rule key exponents masks message out) ≡ signature_size (set_in key)
entry_signature_size rule key exponents masks message out accepted =
    let h = sign_entry rule key exponents masks message out accepted in
    let a = (accepted_signing draw_challenge rule (set_in key) key exponents masks message out h.answer).1 in
    ap length h.written ∙ bytes_size a (set_encodable rule (set_byte key) (ltb-true (set_byte key) 5 h.known.set.set))
