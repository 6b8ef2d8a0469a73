-- A check is not refused exactly when it has passed each of its tests.
-- Assumes nothing.
use mathlib.Core.Path.{◌≡◌}
use mathlib.Core.Bool.{true}
use mathlib.Core.List.{List}
use mathlib.Core.Logic.{◌↔◌}
use Prim.Native.Nat.{ℕ}
use lib.ListN.{length, drop}
use borrow.Author.Tests.{eq-eqb}
use Rattle.parameters.specs.declared.Params.{Params}
use Rattle.challenge.specs.Pool.{is_rule}
use Rattle.encoding.specs.Challenge.{are_entries}
use Rattle.encoding.specs.Encoding.{public_key_size, signature_size, are_exponents, are_evaluations, exponents_of, evaluations_of, entries_in, entries_read}
use Rattle.refusal.proofs.Answering.{both_equal}
use Rattle.refusal.proofs.Chain.{step, end}
use Rattle.checking.specs.Check.{check_lengths, check_refusal_of, check_refusal_in}

-- what was read is not refused
pub record ReadAllowed (rule : ℕ) (p : Params) (exponents evaluations entries : List ℕ) : Type 0 where
  pub rule_known : is_rule rule ≡ true
  pub exponents_rise : are_exponents p exponents ≡ true
  pub evaluations_below : are_evaluations p evaluations ≡ true
  pub entries_increase : are_entries p.n entries ≡ true

pub read_allowed : (rule : ℕ) (p : Params) (js vs es : List ℕ) → (check_refusal_of rule p js vs es ≡ 0) ↔ ReadAllowed rule p js vs es
unfolding check_refusal_of
read_allowed rule p js vs es =
    let tests = step (is_rule rule) 17 (step (are_exponents p js) 3 (step (are_evaluations p vs) 6 (step (are_entries p.n es) 11 end))) in (
      λ e.
          let h = tests.0 e in
          record { rule_known = h.0; exponents_rise = h.1.0; evaluations_below = h.1.1.0; entries_increase = h.1.1.1.0 },
      λ a. tests.1 (a.rule_known, (a.exponents_rise, (a.evaluations_below, (a.entries_increase, tt)))),
    )

module _ (rule : ℕ) (p : Params) (key signature : List ℕ) where
  -- a check is not refused
  pub record CheckAllowed : Type 0 where
    pub key_size : length key ≡ public_key_size p
    pub signature_size : length signature ≡ signature_size p
    pub rule_known : is_rule rule ≡ true
    pub exponents_rise : are_exponents p (exponents_of p key) ≡ true
    pub evaluations_below : are_evaluations p (evaluations_of p key) ≡ true
    pub entries_increase : are_entries p.n (entries_read p signature) ≡ true

  pub check_allowed : (check_refusal_in rule p key signature ≡ 0) ↔ CheckAllowed
  unfolding check_refusal_in entries_read
  check_allowed =
      let read = read_allowed rule p (exponents_of p key) (evaluations_of p key) (entries_in p (drop 1 signature)) in
      let tests = step (check_lengths p (length key) (length signature)) 0 read in (
        λ e.
            let h = tests.0 e in
            let l = both_equal (length key) (public_key_size p) (length signature) (signature_size p) h.0 in
            record {
              key_size = l.0;
              signature_size = l.1;
              rule_known = h.1.rule_known;
              exponents_rise = h.1.exponents_rise;
              evaluations_below = h.1.evaluations_below;
              entries_increase = h.1.entries_increase;
            },
        λ a. tests.1 (
          rw (eq-eqb (length key) (public_key_size p) a.key_size, eq-eqb (length signature) (signature_size p) a.signature_size),
          record {
            rule_known = a.rule_known;
            exponents_rise = a.exponents_rise;
            evaluations_below = a.evaluations_below;
            entries_increase = a.entries_increase;
          },
        ),
      )
