-- A key loaded, from the fields to what they mean: its public evaluations are worked out in front of an array.
-- Assumes nothing.
use Rattle.std.proofs.Common.{◌≡◌, true, ℕ, List, ◌++◌, length, take, Some, Ok}
use lib.Seq.{take_at}
use Rattle.algebra.specs.All.{all}
use Rattle.polynomial.specs.Evaluation.{evaluation_residues}
use Rattle.polynomial.proofs.SignedForm.{centred_residues}
use Rattle.encoding.specs.Encoding.{key_in, is_key_byte}
use Rattle.session_rules.specs.CommandTable.{command_of, command_table}
use Rattle.session_rules.specs.Commands.{load_key, command, command_in}
use Rattle.session_commands.specs.declared.Chosen.{Chosen}
use Rattle.session_commands.specs.declared.Held.TheInside.{Inside}
use Rattle.session_commands.specs.declared.Added.TheVariants.{Values}
use Rattle.session_commands.specs.Outcome.{result_in}
use Rattle.session_commands.specs.View.{held_of}
use Rattle.session_commands.proofs.Residues.{in_front}

module _ (a : Inside) (x : Chosen) (js : List ℕ) (set : a.set ≡ Some x) (points : a.exponents ≡ Some js) (size : length (take x.ring.params.t js) ≡ x.ring.params.t)
    (op : List ℕ) (allowed : all is_key_byte op ≡ true) (bytes : length op ≡ x.ring.params.n) (behind rest s : List ℕ) where
  abbrev residues : List ℕ
  residues = evaluation_residues x.ring.params (key_in op) (take x.ring.params.t js)

  abbrev after : Inside
  after =
      record {
        rule = a.rule;
        set = a.set;
        exponents = a.exponents;
        left = Some 65535;
        key = op ++ behind;
        evaluations = Some (residues ++ rest);
        mask_count = a.mask_count;
        masks = a.masks;
        message = a.message;
      }

  pub key_loaded : result_in (Ok (Values x.ring.params.q)) (held_of after) s ≡ command (held_of a) 3 op
  unfolding load_key command command_in command_of command_table
  key_loaded =
      rw (set, points, allowed, in_front x.ring.params (key_in op) (take x.ring.params.t js) rest size, take_at op behind x.ring.params.n bytes, centred_residues x.ring.params (key_in op) (take x.ring.params.t js))
