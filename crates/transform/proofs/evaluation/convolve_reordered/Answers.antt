-- `convolve_reordered` meets its contract: both lists have residues, as many as the table has entries.
use Rattle.std.proofs.Common.{sym, ◌∙◌, arith}
use Rattle.transform.proofs.ReorderedLists.{backwards_length, convolvable}
use Rattle.transform.proofs.GeneratorLaws.{table_below}
use Rattle.transform.proofs.evaluation.convolve_reordered.Goals as goal

pub reordered_coefficients-u-requires : goal.reordered_coefficients-u-requires
reordered_coefficients-u-requires c = let (prime, order) = c.requires.prime in (
  omega (arith, c.args.powers.now.usable.sound.modulus),
  omega (arith, prime.above, order.table.size, c.args.powers.now.usable.fitting.size),
  table_below prime.above order.table _ (omega (arith, c.requires.coefficients_len.0)),
)

pub reordered_powers-w-requires : goal.reordered_powers-w-requires
reordered_powers-w-requires c = let (prime, order) = c.requires.prime in
    let size = c.args.powers.now.usable.fitting.size in
    (omega (arith, prime.above, order.table.size, size), table_below prime.above order.table _ (omega (arith, c.args.powers.now.size)))

pub convolve-requires : goal.convolve-requires
convolve-requires c = let a = c.args in
    let (prime, order) = c.requires.prime in
    rw (c.reordered_coefficients-u.ensures, c.reordered_powers-w.ensures)
    (convolvable c.args.powers.now.usable prime order a.coefficients.now, c.requires.coefficients_len.1 ∙ sym (backwards_length a.powers.now.params.q a.coefficients.now a.order.now))
