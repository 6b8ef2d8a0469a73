use Rattle.std.proofs.Common.{rules, true, ◌≡◌, length, take, Some, Ok}
use Rattle.algebra.specs.All.{all}
use Rattle.encoding.specs.Encoding.{key_in, is_key_byte}
use Rattle.session_commands.proofs.Residues.{below}
use Rattle.session_commands.proofs.KeyLoaded.{key_loaded}
use Rattle.session_commands.specs.declared.Added.TheVariants.{Values}
use Rattle.session_commands.proofs.Clauses.{whatever_bytes}
use Rattle.session_commands.proofs.Held.load_key.Goals as goal

pub invariant_of-self : goal.invariant_of-self
invariant_of-self c =
    let p = c.in_ok-ring.field-0.ring.params in
    let set : c.self.inside.set ≡ Some c.in_ok-ring.field-0 = search rules in
    let size : length (take p.t c.in_ok-exponents.exponents.now) ≡ p.t = search rules in
    record {
      few = c.self.invariant.few;
      exponents = c.self.invariant.exponents;
      evaluations = rw (set, c.key_evaluations.ensures) (below p (key_in c.args.operand.now) _ _ size c.in_ok-ring.field-0.ring.usable.sound);
      cleared = tt;
    }

pub returns : goal.returns
returns c =
    let p = c.in_ok-ring.field-0.ring.params in
    let op = c.args.operand.now in
    let js = c.in_ok-exponents.exponents.now in
    let set : c.self.inside.set ≡ Some c.in_ok-ring.field-0 = search rules in
    let points : c.self.inside.exponents ≡ Some js = search rules in
    let allowed : all is_key_byte op ≡ true = search rules in
    let size : length (take p.t js) ≡ p.t = search rules in
    let bytes : length op ≡ p.n = search rules in
    rw (← c.self.view_is, c.key_evaluations.ensures, c.copy_from_slice.ensures.after)
    (whatever_bytes (Ok (Values p.q)) _ _ (key_loaded c.self.inside c.in_ok-ring.field-0 js set points size op allowed bytes _ _))
