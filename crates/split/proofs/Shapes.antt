-- The four shapes: what the stages ask of one.
-- Assumes nothing.
use mathlib.Core.Path.{◌≡◌, refl}
use mathlib.Core.Logic.{◌⊎◌, inl, inr}
use Prim.Native.Nat.{ℕ, ◌*◌, ◌/◌, ◌<◌, ◌≤◌}
use native.Mathlib.Omega.{arith}
use lib.Dec.{eqb}
use Rattle.algebra.proofs.Test.{by_test}
use Rattle.split_tables.specs.declared.Shape.{Shape}
use Rattle.split_tables.specs.Split.{PowerOfTwo, shape_of}

pub record Usual (s : Shape) : Type 0 where
  pub starts : (s.start ≡ 1) ⊎ (s.start ≡ 3)
  pub depth : PowerOfTwo (s.k / s.start)
  pub shallow : depth.exponent ≤ 4
  pub parts : s.start * (s.k / s.start) ≡ s.k
  pub few : s.k ≤ 24
  pub short : s.l ≤ 128
  pub some : 0 < s.l

pub usual : (n : ℕ) → Usual (shape_of n)
unfolding shape_of
usual n =
    by_test (eqb n 433)
    (λ a. rw a (record {
      starts = inl refl;
      depth = record { exponent = 4; is = refl };
      shallow = omega arith;
      parts = refl;
      few = omega arith;
      short = omega arith;
      some = omega arith;
    }))
    (λ a. by_test (eqb n 577)
    (λ b. rw (a, b) (record {
      starts = inl refl;
      depth = record { exponent = 3; is = refl };
      shallow = omega arith;
      parts = refl;
      few = omega arith;
      short = omega arith;
      some = omega arith;
    }))
    (λ b. by_test (eqb n 769)
    (λ c. rw (a, b, c) (record {
      starts = inr refl;
      depth = record { exponent = 1; is = refl };
      shallow = omega arith;
      parts = refl;
      few = omega arith;
      short = omega arith;
      some = omega arith;
    }))
    (λ c. rw (a, b, c) (record {
      starts = inr refl;
      depth = record { exponent = 3; is = refl };
      shallow = omega arith;
      parts = refl;
      few = omega arith;
      short = omega arith;
      some = omega arith;
    }))))
