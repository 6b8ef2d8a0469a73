-- The table of a ring: the parts that the stages take, and what the table's first part, the order, gives code that goes by it.
-- Assumes nothing.
use mathlib.Core.Path.{◌≡◌, sym, subst, ◌∙◌}
use mathlib.Core.List.{List, ◌++◌}
use Prim.Native.Nat.{ℕ, ◌+◌, ◌-◌, ◌<◌, ◌≤◌}
use native.Mathlib.Omega.{arith}
use lib.Dec.{T}
use lib.ListN.{length, get_or, take, drop, replicate, length-take, get_or-append}
use Rattle.algebra.specs.All.{are_below}
use Rattle.algebra.proofs.Front.{in_front}
use Rattle.parameters.specs.Limits.{max_n}
use Rattle.transform.specs.Asks.{Places, Placed}
use Rattle.transform.proofs.GeneratorLaws.{table_places, table_below}
use Rattle.split_tables.specs.declared.Ring.{Ring}
use Rattle.split_tables.specs.Split.{SplitTable, SplitTables, split_from, shape_of}
use Rattle.split_tables.proofs.SetTables.{split_table}
use Rattle.split.specs.Fold.{Modulus}
use Rattle.split.proofs.SetStages.{modulus_of, several_of}

-- the tables of a ring are a split's
pub passed : (ring : Ring) → SplitTable ring.params ring.split.now
passed ring = split_table ring.params ring.usable.sound ring.usable.fitting ring.split.now ring.tables

module _ (ring : Ring) (large : split_from ≤ ring.params.q) where
  -- as many as there are exponents
  abbrev last : ℕ
  last = ring.params.n - 1

  abbrev order : List ℕ
  order = take last ring.split.now

  abbrev count : ℕ
  count = (shape_of ring.params.n).k

  abbrev pub tables : SplitTables ring.params order (take count (drop last ring.split.now)) (drop (last + count) ring.split.now)
  tables = (passed ring).parts large

  pub modulus : Modulus ring.params.q
  modulus = modulus_of ring.usable.sound ring.usable.fitting tables

  pub several : 1 < ring.params.n
  several = several_of ring.usable.sound ring.usable.fitting tables

  room : last ≤ max_n
  room = omega (arith, ring.usable.fitting.size)

  -- as many places of an array, lent in front, as there are exponents
  pub lent_count : {A : Type 0} (a : A) → last ≡ length (take last (replicate max_n a))
  lent_count a = (in_front last (replicate max_n a) room).count

  -- the twists stand behind the order
  pub twists_room : count ≤ length (drop last ring.split.now)
  twists_room = omega (arith, length-take count (drop last ring.split.now), tables.twisted.size)

  pub order_size : length order ≡ last
  order_size = tables.generator.size

  pub order_below : (m : ℕ) → ring.params.n ≤ m → T (are_below m order)
  order_below = table_below several tables.generator

  pub order_places : {n : ℕ} → n ≡ last → Places n order
  order_places e = subst (λ (n : ℕ). Places n order) (sym e) (table_places several tables.generator)

  -- numbers placed in front of others
  pub placed_front : {value : ℕ → ℕ} {written : List ℕ} (rest : List ℕ) → length written ≡ last → Placed order value written (length order)
      → Placed order value (written ++ rest) (length order)
  placed_front {value} {written} rest e placed =
      let places = order_places e in
      record {
        each = λ m d h.
            get_or-append written rest d (get_or order m 0 - 1) (omega (arith, places.positive m h, places.within m h)) ∙ placed.each m d h;
      }
