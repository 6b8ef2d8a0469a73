-- A table that passes the test is a split's table.
-- Assumes nothing.
use mathlib.Core.Path.{◌≡◌, refl, sym, ap, subst, ◌∙◌}
use mathlib.Core.Bool.{Bool, true, false, cond}
use mathlib.Core.List.{List, [], ◌∷◌, ◌++◌}
use Prim.Native.Nat.{ℕ, zero, suc, ◌-◌, ◌*◌, ◌≤◌}
use native.Mathlib.Omega.{arith}
use borrow.Author.Tests.{ltb-true}
use lib.Dec.{T, ltb, leb→le, eqb, eqb→eq}
use lib.ListN.{length, take, drop, length-append}
use lib.Seq.{take_at, drop_at, drop-drop}
use Rattle.algebra.proofs.Test.{and_left, and_right, true_holds}
use Rattle.parameters.specs.declared.Params.{Params}
use Rattle.parameters.specs.Sets.{set_of}
use Rattle.parameters.specs.Sound.{Sound, Fitting}
use Rattle.transform.specs.Generator.{generator_of, GeneratorTable, is_generator_table}
use Rattle.transform.proofs.GeneratorLaws.{generator_table}
use Rattle.split_tables.specs.Split.{shape_of, split_from, root_at, SplitTables, SplitTable}
use Rattle.split_tables.specs.Test.{split_tests, is_split, base_of, has_split}
use Rattle.split_tables.proofs.TestLaws.{each, twists_of_test, rows_of_test}

-- a list is its first n numbers and the rest
front_and_rest : (n : ℕ) (t : List ℕ) → t ≡ take n t ++ drop n t
front_and_rest zero t = refl
front_and_rest (suc n) [] = refl
front_and_rest (suc n) (x ∷ t) = ap (λ (l : List ℕ). x ∷ l) (front_and_rest n t)

module _ (p : Params) (base : ℕ) (order table : List ℕ) where
  -- twists and rows that pass the test, behind the generator's powers
  tables_of_test : Sound p → Fitting p → GeneratorTable base p.n order → T (is_split p base table)
      → SplitTables p order (take (shape_of p.n).k table) (drop (shape_of p.n).k table)
  unfolding split_tests
  tables_of_test sound fitting g t =
      let k = (shape_of p.n).k in
      let l = (shape_of p.n).l in
      let ts = split_tests p base table in
      record {
        from = leb→le split_from p.q (each ts t 0 tt);
        to = fitting.modulus;
        shape = eqb→eq (k * l) (p.n - 1) (each ts t 1 tt);
        base = base;
        generator = g;
        twisted = twists_of_test p.q k (shape_of p.n).start (take k table) (each ts t 3 tt);
        rowed = rows_of_test p sound base k l (root_at p.q (take k table) k) (drop k table) (each ts t 4 tt);
      }

  -- the three one after the other
  joined_tables : {t : List ℕ} → GeneratorTable base p.n order → length table ≡ 2 * (p.n - 1) → t ≡ order ++ table
      → (split_from ≤ p.q → SplitTables p order (take (shape_of p.n).k table) (drop (shape_of p.n).k table)) → SplitTable p t
  joined_tables {t} g second e tables =
      let first = g.size in
      let k = (shape_of p.n).k in
      let front : take (p.n - 1) t ≡ order = ap (take (p.n - 1)) e ∙ take_at order table (p.n - 1) first in
      let behind : drop (p.n - 1) t ≡ table = ap (drop (p.n - 1)) e ∙ drop_at order table (p.n - 1) first in
      record {
        size = ap length e ∙ length-append order table ∙ omega arith;
        ordered = record { base = base; table = subst (GeneratorTable base p.n) (sym front) g };
        parts = λ h. rw (front, behind, sym (drop-drop k (p.n - 1) t), behind) (tables h);
      }

  by_test : Sound p → Fitting p → GeneratorTable base p.n order → {t : List ℕ} → t ≡ order ++ table
      → (b : Bool) → ltb p.q split_from ≡ b → T (cond b (eqb (length table) (2 * (p.n - 1))) (is_split p base table)) → SplitTable p t
  unfolding split_tests
  by_test sound fitting g e true is h =
      joined_tables g (eqb→eq (length table) (2 * (p.n - 1)) h) e (λ f. let l = ltb-true p.q split_from is in absurd (omega arith))
  by_test sound fitting g e false is h =
      joined_tables g (eqb→eq (length table) (2 * (p.n - 1)) (each (split_tests p base table) h 2 tt)) e (λ f. tables_of_test sound fitting g h)

-- what a ring's test gives
pub split_table : (p : Params) → Sound p → Fitting p → (t : List ℕ) → has_split p t ≡ true → SplitTable p t
unfolding has_split
split_table p sound fitting t e =
    let h = true_holds e in
    let order = take (p.n - 1) t in
    let table = drop (p.n - 1) t in
    let base = base_of p t in
    let rest = cond (ltb p.q split_from) (eqb (length table) (2 * (p.n - 1))) (is_split p base table) in
    by_test p base order table sound fitting (generator_table base p.n order (and_left (is_generator_table base p.n order) rest h)) (front_and_rest (p.n - 1) t)
    (ltb p.q split_from) refl (and_right (is_generator_table base p.n order) rest h)

-- ---- an arm of the match on a set: s is the number k of the arm
module _ (k : ℕ) {s : ℕ} (is : s ≡ k) (t : List ℕ) where
  pub arm_passes : has_split (set_of k) t ≡ true → has_split (set_of s) t ≡ true
  arm_passes e = subst (λ (x : ℕ). has_split (set_of x) t ≡ true) (sym is) e

  pub arm_least : T (is_generator_table (generator_of k) (set_of k).n (take ((set_of k).n - 1) t))
      → GeneratorTable (generator_of s) (set_of s).n (take ((set_of s).n - 1) t)
  arm_least h =
      subst (λ (x : ℕ). GeneratorTable (generator_of x) (set_of x).n (take ((set_of x).n - 1) t)) (sym is)
      (generator_table (generator_of k) (set_of k).n (take ((set_of k).n - 1) t) h)
