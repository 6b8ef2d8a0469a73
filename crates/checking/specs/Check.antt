-- The entry `check`: refusals 1 (message, empty encodings), 2 (the key's set, or sets that differ), 1, 18, 4, 7, 12, then yes or no.
-- Over any parameter set and any way to draw for each rule of hashing, as the entry `sign` is.
-- Assumes nothing.
use Rattle.std.specs.Prelude.{Bool, not, ◌&&◌, ◌||◌, cond, List, [], ◌∷◌, ℕ, eqb, length, drop}
use Rattle.parameters.specs.declared.Params.{Params}
use Rattle.challenge.specs.Draw.{draw_challenge}
use Rattle.challenge.specs.Pool.{is_rule}
use Rattle.encoding.specs.Challenge.{are_entries, challenge_of}
use Rattle.encoding.specs.Encoding.{public_key_size, signature_size, are_exponents, are_evaluations, exponents_of, evaluations_of, entries_in, z_in}
use Rattle.scheme.specs.Scheme.{Drawer, Drawers, Signature, verdict}
use Rattle.refusal.specs.Verdict.{Verdict}
use Rattle.refusal.specs.Verdict as answer
use Rattle.refusal.specs.Answer.{set_byte, set_in, is_long, in_set_of, Stated, stated}
use Rattle.refusal.specs.Numbers.{wrong_length, wrong_set, wrong_rule, wrong_exponents, wrong_evaluation, wrong_entries}

-- the signature that a body means, the bytes behind the set byte, and that of a whole encoding
unfoldable pub body_read : Params → List ℕ → Signature
body_read p body = record { c = challenge_of p.n (entries_in p body); z = z_in p body }

abbrev pub signature_read : Params → List ℕ → Signature
signature_read p xs = body_read p (drop 1 xs)

-- ---- what refuses a check

-- the rule, then what was read: exponents and evaluations of a public key, entries of a signature
unfoldable pub check_refusal_of : ℕ → Params → List ℕ → List ℕ → List ℕ → ℕ
check_refusal_of rule p exponents evaluations entries =
    cond (not (is_rule rule)) wrong_rule
    (cond (not (are_exponents p exponents)) wrong_exponents
    (cond (not (are_evaluations p evaluations)) wrong_evaluation
    (cond (not (are_entries p.n entries)) wrong_entries 0)))

-- the lengths of the set, then what is read
abbrev pub check_lengths : Params → ℕ → ℕ → Bool
check_lengths p key signature = eqb key (public_key_size p) && eqb signature (signature_size p)

unfoldable pub check_refusal_in : ℕ → Params → List ℕ → List ℕ → ℕ
check_refusal_in rule p key signature =
    cond (not (check_lengths p (length key) (length signature))) wrong_length
    (check_refusal_of rule p (exponents_of p key) (evaluations_of p key) (entries_in p (drop 1 signature)))

-- those of the entry
unfoldable pub check_refusal : ℕ → List ℕ → List ℕ → List ℕ → ℕ
check_refusal rule key message signature =
    cond (is_long message || eqb (length signature) 0) wrong_length
    (in_set_of key (λ (p : Params). cond (not (eqb (set_byte signature) (set_byte key))) wrong_set (check_refusal_in rule p key signature)))

-- ---- what is answered

-- by the refusal number and by the paper's rule
abbrev pub verdict_after : ℕ → Bool → Verdict
verdict_after refusal holds = cond (eqb refusal 0) (cond holds answer.Yes answer.No) (answer.Refused refusal)

-- the same in document 01's number and values: 1 for yes and 0 for no
abbrev pub stated_after : ℕ → Bool → Stated
stated_after refusal holds = cond (eqb refusal 0) (stated 0 (cond holds 1 0 ∷ [])) (stated refusal [])

-- on what was read from a public key, and a signature's body
unfoldable pub answer_on : Drawers → ℕ → Params → List ℕ → List ℕ → List ℕ → List ℕ → Verdict
answer_on draw rule p exponents evaluations message body =
    verdict_after (check_refusal_of rule p exponents evaluations (entries_in p body)) (verdict (draw rule) p exponents message evaluations (body_read p body))

-- the paper's rule, on what is read, with any way to draw
unfoldable pub check_verdict : Drawer → Params → List ℕ → List ℕ → List ℕ → Bool
check_verdict draw p key message signature = verdict draw p (exponents_of p key) message (evaluations_of p key) (signature_read p signature)

unfoldable pub check_answer_in : Drawers → ℕ → Params → List ℕ → List ℕ → List ℕ → Verdict
check_answer_in draw rule p key message signature = verdict_after (check_refusal_in rule p key signature) (check_verdict (draw rule) p key message signature)

-- what the entry answers, and what that states
module _ (rule : ℕ) (key message signature : List ℕ) where
  unfoldable pub check_answer : Verdict
  check_answer = verdict_after (check_refusal rule key message signature) (check_verdict (draw_challenge rule) (set_in key) key message signature)

  unfoldable pub check_stated : Stated
  check_stated = stated_after (check_refusal rule key message signature) (check_verdict (draw_challenge rule) (set_in key) key message signature)
