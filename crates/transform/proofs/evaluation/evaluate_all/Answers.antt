-- `evaluate_all` meets its contract: what stands at the places of the exponents are the evaluations, by Rader's reordering.
use Rattle.std.proofs.Common.{◌≡◌, ℕ, ◌<◌, length, sym, ◌∙◌, subst, rules, arith}
use Rattle.algebra.specs.Integer.{residue}
use Rattle.algebra.proofs.Congruence.{residue_below}
use Rattle.algebra.proofs.Front.{stored}
use Rattle.polynomial.specs.Polynomial.{coefficient}
use Rattle.transform.specs.Asks.{Places}
use Rattle.transform.proofs.AllExponents.{placed_evaluations}
use Rattle.transform.proofs.ConvolutionLaws.{convolution_below}
use Rattle.transform.proofs.ReorderedLists.{values-length}
use Rattle.transform.proofs.GeneratorLaws.{table_places}
use Rattle.transform.proofs.evaluation.evaluate_all.Goals as goal

pub place_values-requires : goal.place_values-requires
place_values-requires c = let a = c.args in
    let (prime, order) = c.requires.prime in
    let count = c.requires.coefficients_len.1 in
    let positive : 0 < a.powers.now.params.q = omega (arith, c.args.powers.now.usable.sound.modulus) in
    let size = values-length a.powers.now.params.q a.coefficients.now a.order.now a.powers.now.table.now in
    let first : c.coefficient_residue-first.result ≡ residue (coefficient a.coefficients.now 0) a.powers.now.params.q = search rules in
    rw (stored (length a.order.now) _ size c.convolve_reordered.ensures).front record {
      first_lt_q = (
        omega (arith, first, residue_below positive (coefficient a.coefficients.now 0)),
        omega (arith, c.args.powers.now.usable.fitting.modulus),
        convolution_below a.powers.now.params.q _ _ positive,
      );
      sums_len = (size, count ∙ sym order.table.size, subst (λ (n : ℕ). Places n a.order.now) (sym count) (table_places prime.above order.table));
    }

pub returns : goal.returns
returns c = let a = c.args in
    let (prime, order) = c.requires.prime in
    let (f_len, count) = c.requires.coefficients_len in
    let call = c.place_values in
    let size = values-length a.powers.now.params.q a.coefficients.now a.order.now a.powers.now.table.now in
    let first : c.coefficient_residue-first.result ≡ residue (coefficient a.coefficients.now 0) a.powers.now.params.q = search rules in
    placed_evaluations c.args.powers.now.usable prime order.table a.coefficients.now f_len (call.ensures.size ∙ count) first
    (stored (length a.order.now) _ size c.convolve_reordered.ensures).front call.ensures.each
