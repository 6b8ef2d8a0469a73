-- Exactly b (request #104): a drawn challenge has exactly b coefficients that are not 0, each 1 or -1, and N - b that are 0; and so has an encoded challenge
-- that the reader accepts, with strictly increasing indices below N. What both are is one definition, `Sparse`.
-- Assumes nothing.
use mathlib.Core.Path.{◌≡◌, refl}
use mathlib.Core.Bool.{true, not, ◌&&◌, ◌||◌, cond}
use mathlib.Core.List.{List}
use mathlib.Core.Logic.Iff
use mathlib.Core.Logic.{◌⊎◌}
use mathlib.Core.Option.{Option, none, some}
use Prim.Native.Nat.{ℕ, ◌-◌, ◌≤◌}
use native.Mathlib.Omega.{arith}
use borrow.Author.Tests.{ltb-true}
use lib.Dec.{eqb}
use lib.IntN.{ℤ, pos, negsuc}
use lib.ListN.{length, drop}
use Rattle.algebra.proofs.Test.{true_holds}
use Rattle.parameters.specs.declared.Params.{Params}
use Rattle.parameters.specs.Sets.{is_set, set_of}
use Rattle.polynomial.specs.Polynomial.{coefficient, one_norm}
use Rattle.polynomial.specs.Sparse.{Sparse, zeros, nonzeros}
use Rattle.polynomial.proofs.Norm.{zeros-nonzeros, one_or_minus_one, norm_nonzeros}
use Rattle.polynomial.proofs.Bound.{within-coefficient}
use Rattle.challenge.specs.Draw.{draw, draw_challenge}
use Rattle.challenge.proofs.Challenge.{drawn_sparse}
use Rattle.encoding.specs.Challenge.{are_entries, challenge_of}
use Rattle.encoding.specs.Encoding.{signature_size, entries_read}
use Rattle.encoding.proofs.ReadChallenge.{read_sparse, body_sparse}
use Rattle.scheme.specs.Scheme.{Drawers}
use Rattle.refusal.specs.Signing as signing
use Rattle.refusal.specs.Numbers.{wrong_length, wrong_set}
use Rattle.refusal.specs.Answer.{set_byte, set_in, is_long}
use Rattle.refusal.proofs.Chain.{passed, step, end}
use Rattle.refusal.proofs.SetRefusal.{in_a_set_iff}
use Rattle.codec.specs.Codec.{entries_refusal, read_signature_in, read_signature_refusal, read_entries_written}
use Rattle.signing.specs.Sign.{sign_answer_in, sign_written_in, sign_answer, sign_written}
use Rattle.signing.proofs.AcceptedSigning.{accepted_signing}
use Rattle.checking.specs.Check.{body_read, signature_read, check_refusal_in, check_refusal}
use Rattle.checking.proofs.Allowed.{check_allowed}
use Rattle.values.specs.Draw.{draw_lengths, drawn_refusal, drawn_over, draw_refusal, draw_written}
use Rattle.passign.specs.Hiding.{Encodable}
use Rattle.passign.proofs.AcceptedBytes.{sparse_challenge, meaning}
use Rattle.passign.proofs.Entry.{sign_entry}
use Rattle.passign.proofs.FiveSets.{set_encodable}

-- ---- in any set, whatever its N and b are

-- a challenge that a pool yields, whatever its length is
pub drawn : (p : Params) (pool : List ℕ) (c : List ℤ) → draw p pool ≡ some c → Sparse p c
drawn = drawn_sparse

-- the challenge of b entries that the reader accepts
pub read : (p : Params) (entries : List ℕ) → length entries ≡ p.b → are_entries p.n entries ≡ true → Sparse p (challenge_of p.n entries)
read p entries count accepted = read_sparse p entries count (true_holds accepted)

-- what both have
module _ {p : Params} {c : List ℤ} (challenge : Sparse p c) where
  pub exactly_b_nonzero : nonzeros c ≡ p.b
  exactly_b_nonzero = challenge.exact

  pub plus_or_minus_one : (i : ℕ) → ¬ (coefficient c i ≡ pos 0) → (coefficient c i ≡ pos 1) ⊎ (coefficient c i ≡ negsuc 0)
  plus_or_minus_one i = one_or_minus_one (coefficient c i) (within-coefficient 1 c i challenge.small)

  pub the_rest_zero : zeros c ≡ p.n - p.b
  the_rest_zero = omega (arith, zeros-nonzeros c, challenge.size, challenge.exact)

  pub absolute_values : one_norm c ≡ nonzeros c
  absolute_values = norm_nonzeros c challenge.small

  -- so b is at most N in a set that has a challenge
  pub at_most_n : p.b ≤ p.n
  at_most_n = omega (arith, zeros-nonzeros c, challenge.size, challenge.exact)

-- the challenge of a signature whose check is not refused, and of one that signing makes
pub checked : (rule : ℕ) (p : Params) (key signature : List ℕ) → check_refusal_in rule p key signature ≡ 0 → Sparse p (signature_read p signature).c
unfolding body_read entries_read
checked rule p key signature e = body_sparse p (drop 1 signature) (true_holds ((check_allowed rule p key signature).0 e).entries_increase)

pub signed : (draw : Drawers) (rule : ℕ) {p : Params} → Encodable (draw rule) p → (key exponents : List ℕ) (masks : List ℤ) (message out : List ℕ) {i : ℕ}
    → sign_answer_in draw rule p key exponents masks message out ≡ signing.Signed i
    → Sparse p (signature_read p (sign_written_in draw rule p key exponents masks message out)).c
signed draw rule {p} e key exponents masks message out accepted =
    let a = (accepted_signing draw rule p key exponents masks message out accepted).1 in
    rw (meaning a e) (sparse_challenge a e)

-- ---- the entries, in the five sets

-- by what the pool yields
of_pool : (p : Params) (o : Option (List ℤ)) (out : List ℤ) → ((c : List ℤ) → o ≡ some c → Sparse p c) → drawn_refusal o ≡ 0 → Sparse p (drawn_over o out)
of_pool p none out h e = absurd (omega (arith, e))
of_pool p (some c) out h e = h c refl

-- what `draw` writes where it is not refused
pub entry_draw : (s : ℕ) (pool : List ℕ) (out : List ℤ) → draw_refusal s pool out ≡ 0 → Sparse (set_of s) (draw_written s pool out)
unfolding draw_refusal draw_written
entry_draw s pool out e =
    let p = set_of s in
    let h = (step (is_set s) 1 (step (draw_lengths p (length pool) (length out)) 0 Iff.rfl)).0 e in
    rw e (of_pool p (draw p pool) out (drawn p pool) h.1.1)

-- the challenge of the entries that `read_signature` writes
pub entry_read : (xs entries : List ℕ) (z : List ℤ) → read_signature_refusal xs (length entries) (length z) ≡ 0
    → Sparse (set_in xs) (challenge_of (set_in xs).n (read_entries_written xs entries z))
unfolding read_signature_refusal read_signature_in entries_refusal read_entries_written entries_read
entry_read xs entries z e =
    let p = set_in xs in
    let sizes = eqb (length xs) (signature_size p) && (eqb (length entries) p.b && eqb (length z) p.n) in
    let tests = step sizes 0 (step (are_entries p.n (entries_read p xs)) 11 end) in
    let h = tests.0 ((in_a_set_iff xs (read_signature_in xs (length entries) (length z))).0 e).1 in
    rw e (body_sparse p (drop 1 xs) (true_holds h.1.0))

-- the challenge that `check` reads where it is not refused
pub entry_check : (rule : ℕ) (key message signature : List ℕ) → check_refusal rule key message signature ≡ 0
    → Sparse (set_in key) (signature_read (set_in key) signature).c
unfolding check_refusal
entry_check rule key message signature e =
    let rest : Params → ℕ = λ (p : Params). cond (not (eqb (set_byte signature) (set_byte key))) wrong_set (check_refusal_in rule p key signature) in
    let h = (passed (is_long message || eqb (length signature) 0) {a = wrong_length} (λ n. omega (arith, n)) (in_a_set_iff key rest)).0 e in
    checked rule (set_in key) key signature ((step (eqb (set_byte signature) (set_byte key)) 1 Iff.rfl).0 h.1.1).1

-- the challenge that `sign` writes
pub entry_sign : (rule : ℕ) (key exponents : List ℕ) (masks : List ℤ) (message out : List ℕ) {i : ℕ}
    → sign_answer rule key exponents masks message out ≡ signing.Signed i
    → Sparse (set_in key) (signature_read (set_in key) (sign_written rule key exponents masks message out)).c
entry_sign rule key exponents masks message out accepted =
    let h = sign_entry rule key exponents masks message out accepted in
    let e = set_encodable rule (set_byte key) (ltb-true (set_byte key) 5 h.known.set.set) in
    rw h.written (signed draw_challenge rule e key exponents masks message out h.answer)
