-- `split_sums` meets its contract: the three tables are parts of one list.
use mathlib.Core.Path.{◌≡◌, sym, ap, ap₂, ◌∙◌}
use mathlib.Core.List.{List}
use Prim.Native.Nat.{ℕ, ◌-◌, ◌*◌, ◌≤◌}
use native.Mathlib.Omega.{arith}
use lib.ListN.{take, drop}
use lib.Seq.{drop-drop}
use Rattle.split_tables.specs.declared.Ring.{Ring}
use Rattle.split_tables.specs.declared.Shape.{Shape}
use Rattle.split_tables.specs.Split.{SplitTables, split_from, shape_of}
use Rattle.split.proofs.SetStages.{staged_of}
use Rattle.split.proofs.SetTable.{passed, tables, twists_room, order_below}
use Rattle.split.proofs.evaluation.split_sums.Goals as goal

-- the three tables as the code cuts them
parts : (ring : Ring) → split_from ≤ ring.params.q → {shape : Shape} {order behind twists rows : List ℕ} → shape ≡ shape_of ring.params.n
    → order ≡ take (ring.params.n - 1) ring.split.now → behind ≡ drop (ring.params.n - 1) ring.split.now
    → twists ≡ take shape.k behind → rows ≡ drop shape.k behind → SplitTables ring.params order twists rows
parts ring large e order behind twists rows =
    rw (order, twists, rows, behind, e, drop-drop (shape_of ring.params.n).k (ring.params.n - 1) ring.split.now) (tables ring large)

pub split_at-requires : goal.split_at-requires
split_at-requires c = omega (arith, (passed c.args.ring.now).size)

pub split_at-requires-2 : goal.split_at-requires-2
split_at-requires-2 c = rw (c.split_at.ensures.back, c.shape_of-shape.ensures) (twists_room c.args.ring.now c.requires.modulus.0)

pub invariant_of-stages : goal.invariant_of-stages
invariant_of-stages c = let ring = c.args.ring.now in
    let e = c.shape_of-shape.ensures in
    let cut = c.split_at.ensures in
    let parts = parts ring c.requires.modulus.0 e cut.front cut.back c.split_at-2.ensures.front c.split_at-2.ensures.back in
    rw (c.requires.modulus.1, e) record { staged = staged_of ring.usable.sound ring.usable.fitting parts }

pub sum_reordered-requires-clause-lifted_below : goal.sum_reordered-requires-clause-lifted_below
sum_reordered-requires-clause-lifted_below c = let lifted = c.requires.lifted_len in
    rw (c.requires.modulus.1, c.split_at.ensures.front) (lifted.1, order_below c.args.ring.now c.requires.modulus.0 _ (omega (arith, lifted.0)))

pub sum_reordered-requires-clause-order_len : goal.sum_reordered-requires-clause-order_len
sum_reordered-requires-clause-order_len c = let e = c.shape_of-shape.ensures in
    let cut = c.split_at.ensures in
    let parts = parts c.args.ring.now c.requires.modulus.0 e cut.front cut.back c.split_at-2.ensures.front c.split_at-2.ensures.back in (
      parts.generator.size ∙ sym parts.shape ∙ ap₂ ◌*◌ (sym parts.twisted.size) (sym (ap (λ (s : Shape). s.l) e)),
      c.requires.lifted_len.2 ∙ sym parts.generator.size,
    )
