-- The cases of an answer are apart, and equal refusals have equal numbers.
-- Assumes nothing.
use mathlib.Core.Path.{◌≡◌}
use Prim.Native.Nat.{ℕ}
use Rattle.refusal.specs.Answer as answer
use Rattle.refusal.specs.Signing as signing
use Rattle.refusal.specs.Verdict as verdict

pub done_not_refused : {n : ℕ} → answer.Done ≡ answer.Refused n → ⊥
done_not_refused e = cc

pub refused_same : {m n : ℕ} → signing.Refused m ≡ signing.Refused n → m ≡ n
refused_same e = cc

pub refused_not_signed : {n i : ℕ} → signing.Refused n ≡ signing.Signed i → ⊥
refused_not_signed e = cc

pub refused_not_yes : {n : ℕ} → verdict.Refused n ≡ verdict.Yes → ⊥
refused_not_yes e = cc

pub refused_not_no : {n : ℕ} → verdict.Refused n ≡ verdict.No → ⊥
refused_not_no e = cc

pub yes_not_no : verdict.Yes ≡ verdict.No → ⊥
yes_not_no e = cc

pub no_not_yes : verdict.No ≡ verdict.Yes → ⊥
no_not_yes e = cc
