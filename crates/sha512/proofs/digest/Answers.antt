-- `digest` puts one word a turn.
use Rattle.std.proofs.Common.{◌≡◌, sym, refl, ◌∙◌, arith, take_all, rules}
use Rattle.std.proofs.lemmas.Slice.{overwrites}
use Rattle.sha512.specs.Digest.{bytes_of}
use Rattle.sha512.proofs.Filling.{bytes_more}
use Rattle.sha512.proofs.digest.Goals as goal

pub loop-i-init : goal.loop-i-init
unfolding bytes_of
loop-i-init c = (search rules, refl)

pub loop-i-preserved : goal.loop-i-preserved
loop-i-preserved c = let l = c.loop-i in (
  search (rules, overwrites),
  bytes_more l.out c.args.h _ l.i l.invariant.0 (omega arith) l.invariant.1 (c.copy_from_slice.ensures.after ∙ c.to_be_bytes.ensures),
)

pub returns : goal.returns
returns c = let l = c.loop-i in
    let e : l.i ≡ 8 = omega arith in
    sym (take_all 64 l.out (omega arith)) ∙ rw e at l.invariant.1
