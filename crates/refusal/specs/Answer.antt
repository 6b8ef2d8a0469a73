-- What the entries' definitions share: messages too long, the set of an encoding, refusal numbers (0 for none), and document 01's number and values for
-- each case of an answer.
-- Assumes nothing.
use Rattle.std.specs.Prelude.{Bool, not, cond, List, [], ◌∷◌, ℕ, zero, suc, ◌+◌, ltb, eqb, length, get_or}
use Rattle.parameters.specs.declared.Params.{Params}
use Rattle.parameters.specs.Sets.{is_set, set_of}
use Rattle.refusal.specs.Signing.{Signing}
use Rattle.refusal.specs.Signing as signing
use Rattle.refusal.specs.Verdict.{Verdict}
use Rattle.refusal.specs.Verdict as verdict
use Rattle.refusal.specs.Numbers.{wrong_length, wrong_set}

-- an encoding's first byte is its set
abbrev pub set_byte : List ℕ → ℕ
set_byte xs = get_or xs 0 0

-- the parameters of that set
abbrev pub set_in : List ℕ → Params
set_in xs = set_of (set_byte xs)

-- a message of more than 65,535 bytes is too long
abbrev pub is_long : List ℕ → Bool
is_long message = ltb 65535 (length message)

-- refused for a number that is no set, else the refusal number that the set decides
abbrev pub in_set : ℕ → (Params → ℕ) → ℕ
in_set s refusal = cond (not (is_set s)) wrong_set (refusal (set_of s))

-- refused for an empty encoding, then the set of its first byte
abbrev pub in_set_of : List ℕ → (Params → ℕ) → ℕ
in_set_of xs refusal = cond (eqb (length xs) 0) wrong_length (in_set (set_byte xs) refusal)

-- what an entry answers that writes buffers: it wrote them whole, or the refusal number
pub data Answer : Type 0 where
  Done : Answer
  Refused : ℕ → Answer

-- the answer with this refusal number, 0 for none
abbrev pub answer_of : ℕ → Answer
answer_of zero = Done
answer_of (suc n) = Refused (suc n)

-- a buffer after a call with this refusal number: what is written, or as it was
abbrev pub unless_refused : {A : Type 0} → ℕ → List A → List A → List A
unless_refused n written before = cond (eqb n 0) written before

-- what an answer states in document 01's words: the number, 0 for an accepted call and else the refusal, and the values that come with it
pub record Stated : Type 0 where
  pub number : ℕ
  pub values : List ℕ

abbrev pub stated : ℕ → List ℕ → Stated
stated number values = record { number = number; values = values }

-- done: no value but what is written
abbrev pub answer_states : Answer → Stated
answer_states Done = stated 0 []
answer_states (Refused n) = stated n []

-- signed: the number of masks passed over
abbrev pub signing_states : Signing → Stated
signing_states (signing.Signed n) = stated 0 (n ∷ [])
signing_states (signing.Refused n) = stated n []

-- checked: 1 for yes and 0 for no, as the row of a 07 prints them
abbrev pub verdict_states : Verdict → Stated
verdict_states verdict.Yes = stated 0 (1 ∷ [])
verdict_states verdict.No = stated 0 (0 ∷ [])
verdict_states (verdict.Refused n) = stated n []

-- to C: 0 for done, else the refusal number
abbrev pub number_of : Answer → ℕ
number_of Done = 0
number_of (Refused n) = n

-- to C: 256 plus the number passed over, else the refusal number
abbrev pub signing_number : Signing → ℕ
signing_number (signing.Signed n) = 256 + n
signing_number (signing.Refused n) = n

-- to C: 0 for no, 256 for yes, else the refusal number
abbrev pub verdict_number : Verdict → ℕ
verdict_number verdict.Yes = 256
verdict_number verdict.No = 0
verdict_number (verdict.Refused n) = n
