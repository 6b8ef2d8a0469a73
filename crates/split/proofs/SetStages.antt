-- The tables of a set, as the stages take them.
-- Assumes nothing.
use mathlib.Core.Path.{◌≡◌, sym, ap, ◌∙◌, subst}
use mathlib.Core.List.{List, [], ◌∷◌}
use Prim.Native.Nat.{ℕ, ◌-◌, ◌*◌, ◌/◌, ◌<◌}
use native.Mathlib.Omega.{arith}
use lib.ListN.{length, get_or}
use Rattle.parameters.specs.declared.Params.{Params}
use Rattle.parameters.specs.Sound.{Sound, Fitting}
use Rattle.transform.specs.Generator.{GeneratorTable}
use Rattle.split_tables.specs.Split.{SplitTables, shape_of}
use Rattle.split.specs.Fold.{Modulus}
use Rattle.split.specs.Values.{Staged}
use Rattle.split.proofs.Shapes.{usual}
use Rattle.split.proofs.CorrelationLaws.{twisted, rowed, whole}

by_length : {n : ℕ} (t : List ℕ) → length t ≡ n - 1 → get_or t 0 0 ≡ 1 → 1 < n
by_length [] size first = absurd (omega (arith, first))
by_length (x ∷ t) size first = omega (arith, size)

-- a generator's table is not empty
table_several : {base n : ℕ} {t : List ℕ} → GeneratorTable base n t → 1 < n
table_several {base} {n} {t} g = by_length t g.size g.first

module _ {p : Params} {order twists rows : List ℕ} (sound : Sound p) (fitting : Fitting p) (tables : SplitTables p order twists rows) where
  pub modulus_of : Modulus p.q
  modulus_of = record { from = tables.from; to = tables.to }

  pub several_of : 1 < p.n
  several_of = table_several tables.generator

  count : (shape_of p.n).k ≡ length twists
  count = sym tables.twisted.size

  pub staged_of : Staged p.q (shape_of p.n).start (shape_of p.n).l twists rows
  staged_of =
      let u = usual p.n in
      record {
        tree = record {
          modulus = modulus_of;
          twisted = twisted sound several_of tables;
          starts = u.starts;
          depth = record { exponent = u.depth.exponent; is = ap (λ (k : ℕ). k / (shape_of p.n).start) (sym count) ∙ u.depth.is };
          shallow = u.shallow;
          parts = subst (λ (k : ℕ). (shape_of p.n).start * (k / (shape_of p.n).start) ≡ k) count u.parts;
          few = omega (arith, u.few, count);
        };
        rows_below = (rowed sound several_of tables).below;
        rows_size = (rowed sound several_of tables).size;
        room = omega (arith, whole sound several_of tables, fitting.size);
        short = u.short;
        some = u.some;
      }
