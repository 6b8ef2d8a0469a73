-- What a command of the code gives, in the words of the rules.
-- Assumes nothing.
use Rattle.std.specs.Prelude.{List, map, ℕ, take, Ok, Err}
use Rattle.std.specs.declared.result.Result.{Result as ResultOf}
use Rattle.algebra.specs.Integer.{centre}
use Rattle.refusal.specs.Meaning.{number_in}
use Rattle.refusal.specs.declared.Refusal.{Refusal}
use Rattle.refusal.specs.declared.Verdict.TheVariants as verdict
use Rattle.refusal.specs.declared.Verdict.{Verdict}
use Rattle.session_rules.specs.Held.{Held, given}
use Rattle.session_rules.specs.Commands.{Payload, nothing, values, signed, judged, Result}
use Rattle.session_commands.specs.declared.Added.{Added}
use Rattle.session_commands.specs.declared.Added.TheVariants as added

-- a verdict as a row prints it
abbrev pub verdict_number : Verdict → ℕ
verdict_number verdict.Yes = 1
verdict_number verdict.No = 0

-- what an accepted command adds to its row, with what is held after it and the signature's bytes
abbrev pub payload_of : Added → Held → List ℕ → Payload
payload_of added.Nothing h bytes = nothing
payload_of (added.Values q) h bytes = values (map (λ (r : ℕ). centre r q) (given h.evaluations))
payload_of (added.Signed passed size) h bytes = signed passed (take size bytes)
payload_of (added.Judged v) h bytes = judged (verdict_number v)

-- a refused command adds nothing
abbrev pub payload_in : ResultOf Added Refusal → Held → List ℕ → Payload
payload_in (Ok x) h bytes = payload_of x h bytes
payload_in (Err r) h bytes = nothing

-- what a command gives
abbrev pub result_in : ResultOf Added Refusal → Held → List ℕ → Result
result_in r h bytes = record { number = number_in r; held = h; payload = payload_in r h bytes }
