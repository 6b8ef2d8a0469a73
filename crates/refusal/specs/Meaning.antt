-- What the code's answers mean in document 01's words: a refusal by its number, and the answers of the entries.
-- Assumes nothing.
use Rattle.std.specs.Prelude.{Bool, true, false, ℕ, Ok, Err}
use Rattle.std.specs.declared.result.Result.{Result}
use Rattle.refusal.specs.Numbers as numbers
use Rattle.refusal.specs.declared.Refusal.{Refusal}
use Rattle.refusal.specs.declared.Refusal.TheVariants as refusal
use Rattle.refusal.specs.declared.Verdict as checked
use Rattle.refusal.specs.declared.Verdict.TheVariants as verdict
use Rattle.refusal.specs.Signing as signing
use Rattle.refusal.specs.Verdict as answer
use Rattle.refusal.specs.Answer.{Answer, Done, Refused}

-- document 01's number of each refusal
abbrev pub refusal_number : Refusal → ℕ
refusal_number refusal.WrongLength = numbers.wrong_length
refusal_number refusal.WrongSet = numbers.wrong_set
refusal_number refusal.NoSet = numbers.no_set
refusal_number refusal.WrongExponents = numbers.wrong_exponents
refusal_number refusal.WrongKey = numbers.wrong_key
refusal_number refusal.WrongMask = numbers.wrong_mask
refusal_number refusal.WrongEvaluation = numbers.wrong_evaluation
refusal_number refusal.TooManyMasks = numbers.too_many_masks
refusal_number refusal.NonePasses = numbers.none_passes
refusal_number refusal.NotHeld = numbers.not_held
refusal_number refusal.PoolSpent = numbers.pool_spent
refusal_number refusal.WrongEntries = numbers.wrong_entries
refusal_number refusal.FileEnds = numbers.file_ends
refusal_number refusal.UnknownCommand = numbers.unknown_command
refusal_number refusal.WrongTag = numbers.wrong_tag
refusal_number refusal.BytesAfterEnd = numbers.bytes_after_end
refusal_number refusal.NoneLeft = numbers.none_left
refusal_number refusal.WrongRule = numbers.wrong_rule

-- one test: nothing, or this refusal
abbrev pub ensured : Bool → Refusal → Result (Unit {0}) Refusal
ensured true r = Ok tt
ensured false r = Err r

-- 0 for a call that is not refused, else the refusal's number
abbrev pub number_in : {A : Type 0} → Result A Refusal → ℕ
number_in (Ok x) = 0
number_in (Err r) = refusal_number r

-- the answer of an entry that writes buffers
abbrev pub answer_in : {A : Type 0} → Result A Refusal → Answer
answer_in (Ok x) = Done
answer_in (Err r) = Refused (refusal_number r)

-- the answer of signing, which gives the number of masks passed over
abbrev pub signing_in : Result ℕ Refusal → signing.Signing
signing_in (Ok passed) = signing.Signed passed
signing_in (Err r) = signing.Refused (refusal_number r)

-- the answer of checking
abbrev pub verdict_of : checked.Verdict → answer.Verdict
verdict_of verdict.Yes = answer.Yes
verdict_of verdict.No = answer.No

abbrev pub verdict_in : Result checked.Verdict Refusal → answer.Verdict
verdict_in (Ok v) = verdict_of v
verdict_in (Err r) = answer.Refused (refusal_number r)
