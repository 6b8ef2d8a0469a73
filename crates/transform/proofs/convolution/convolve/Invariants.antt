-- `convolve` meets its contract: each turn reduces one sum, which is the convolution at its place.
use mathlib.Core.List.{List, map}
use Prim.Native.Nat.{ℕ}
use lib.ListN.{length}
use Rattle.algebra.specs.Integer.{residue}
use Rattle.algebra.proofs.Filling.{Filled}
use Rattle.transform.specs.UpFrom.{up_from}
use Rattle.transform.specs.Convolution.{cyclic, entry}
use Rattle.transform.proofs.convolution.convolve.Given as goal

abbrev pub value : ℕ → List ℕ → List ℕ → ℕ → ℕ
value q u w m = residue (cyclic (length u) (entry u) (entry w) m) q

abbrev pub invariant-loop-m : goal.invariant-loop-m
invariant-loop-m l = Filled (map (value l.q l.u l.w) (up_from 0 (length l.u))) (length l.u) (length l.u) l.out l.m
