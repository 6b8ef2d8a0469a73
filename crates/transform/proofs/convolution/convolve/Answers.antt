-- `convolve` meets its contract: each turn reduces one sum, which is the convolution at its place.
use Rattle.std.proofs.Common.{ℕ, ◌^◌, length, ap, ◌∙◌, subst, arith}
use lib.Dec.{ltb, ltb→lt, lt→ltb}
use Rattle.algebra.specs.Integer.{residue}
use Rattle.algebra.proofs.All.{all_weaker}
use Rattle.algebra.proofs.Filling.{filled_none}
use Rattle.transform.specs.Asks.{Twice}
use Rattle.transform.proofs.UpFrom.{filled_up, up_map-length}
use Rattle.transform.proofs.ConvolutionLaws.{dot_cyclic}
use Rattle.transform.proofs.convolution.convolve.Goals as goal

pub dot-requires : goal.dot-requires
dot-requires c = let ask = c.requires.0 in
    let q = c.args.q in (
      ask.room,
      omega (arith, ask.room),
      all_weaker (λ (v : ℕ). ltb v q) (λ (v : ℕ). ltb v (2 ^ 20)) (λ x t. lt→ltb x (2 ^ 20) (omega (arith, ltb→lt x q t, ask.modulus))) c.args.u.now
          ask.first,
    )

pub loop-m-preserved : goal.loop-m-preserved
loop-m-preserved c = let l = c.loop-m in
    let u = c.args.u.now in
    let v = c.backwards_twice-v in
    let twice = subst (λ (n : ℕ). Twice n c.args.w.now v.result n) c.requires.0.size v.ensures in
    filled_up _ (length u) l.invariant (omega arith) (omega arith)
    (c.modulo.ensures ∙ ap (λ z. residue z c.args.q) (c.dot.ensures ∙ dot_cyclic twice u l.m (omega arith)))

pub loop-m-init : goal.loop-m-init
loop-m-init c = filled_none (up_map-length _ 0 (length c.args.u.now)) c.requires.1
