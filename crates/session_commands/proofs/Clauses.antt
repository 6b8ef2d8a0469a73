-- What a command gives, by the clauses of a contract.
-- Assumes nothing.
use Rattle.std.proofs.Common.{◌≡◌, ℕ, List, [], ap}
use Rattle.std.specs.declared.result.Result.{Result as ResultOf}
use Rattle.refusal.specs.declared.Refusal.{Refusal}
use Rattle.refusal.specs.Meaning.{number_in}
use Rattle.session_rules.specs.Held.{Held}
use Rattle.session_rules.specs.Commands.{Result}
use Rattle.session_commands.specs.declared.Added.{Added}
use Rattle.session_commands.specs.Outcome.{payload_in, result_in}

pub whatever_bytes : (r : ResultOf Added Refusal) (h : Held) (d : Result) → ((s : List ℕ) → result_in r h s ≡ d)
    → record { number : number_in r ≡ d.number; held : h ≡ d.held; payload : (s : List ℕ) → payload_in r h s ≡ d.payload }
whatever_bytes r h d e =
    record {
      number = ap (λ (x : Result). x.number) (e []);
      held = ap (λ (x : Result). x.held) (e []);
      payload = λ s. ap (λ (x : Result). x.payload) (e s);
    }

-- a command with no operand
pub whatever_operand : (r : ResultOf Added Refusal) (h : Held) (s : List ℕ) (d : List ℕ → Result) → ((op : List ℕ) → result_in r h s ≡ d op)
    → record {
      number : (op : List ℕ) → number_in r ≡ (d op).number;
      held : (op : List ℕ) → h ≡ (d op).held;
      payload : (op : List ℕ) → payload_in r h s ≡ (d op).payload;
    }
whatever_operand r h s d e =
    record {
      number = λ op. ap (λ (x : Result). x.number) (e op);
      held = λ op. ap (λ (x : Result). x.held) (e op);
      payload = λ op. ap (λ (x : Result). x.payload) (e op);
    }
