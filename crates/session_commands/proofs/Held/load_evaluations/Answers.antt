use Rattle.std.proofs.Common.{rules, true, ◌≡◌, length, Some}
use Rattle.encoding.specs.Encoding.{are_evaluations}
use Rattle.session_commands.proofs.Front.{front_below}
use Rattle.session_commands.proofs.Held.load_evaluations.Goals as goal

pub invariant_of-self : goal.invariant_of-self
invariant_of-self c =
    let set : c.self.inside.set ≡ Some c.in_ok-p.field-0 = search rules in
    let size : length c.read_list.new.out ≡ c.in_ok-p.field-0.ring.params.t = search rules in
    let test : are_evaluations c.in_ok-p.field-0.ring.params c.read_list.new.out ≡ true = search rules in
    record {
      few = c.self.invariant.few;
      exponents = c.self.invariant.exponents;
      evaluations = rw set (front_below c.in_ok-p.field-0.ring.params c.read_list.new.out _ size test);
      cleared = search rules;
    }
