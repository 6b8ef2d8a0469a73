-- A loop that writes its values at the places that a table gives, one a turn.
-- Assumes nothing.
use mathlib.Core.Path.{◌≡◌, sym, ap, ◌∙◌}
use mathlib.Core.List.{List}
use Prim.Native.Nat.{ℕ, ◌+◌, ◌-◌, ◌<◌}
use native.Mathlib.Omega.{arith}
use borrow.Author.Tests.{eqb-true, eqb-false}
use lib.Dec.{eqb}
use lib.ListN.{length, get_or, set}
use lib.Seq.{get_or-set_same, get_or-set_other}
use Rattle.algebra.proofs.Test.{by_test}
use Rattle.transform.specs.Asks.{Places, Placed}

pub placed_none : {A : Type 0} (t : List ℕ) (value : ℕ → A) (l : List A) → Placed t value l 0
placed_none t value l = record { each = λ m d h. absurd (omega arith) }

-- one value more, at a place that no earlier value has
pub placed_more : {A : Type 0} {t : List ℕ} {value : ℕ → A} {l : List A} {k : ℕ} {v : A} → Placed t value l k → Places (length l) t → k < length t → v ≡ value k
    → Placed t value (set l (get_or t k 0 - 1) v) (k + 1)
placed_more {A} {t} {value} {l} {k} {v} before places h e =
    let at = get_or t k 0 - 1 in
    record {
      each = λ m d b. by_test (eqb m k)
          (λ q. let same = eqb-true m k q in
          ap (λ (j : ℕ). get_or (set l at v) (get_or t j 0 - 1) d) same
          ∙ get_or-set_same l at v d (omega (arith, places.positive k h, places.within k h)) ∙ e ∙ ap value (sym same))
          (λ q. let other = eqb-false m k q in
          let less : m < k = omega arith in
          get_or-set_other l at (get_or t m 0 - 1) v d
          (λ f. places.apart m k less h (omega (arith, places.positive m (omega arith), places.positive k h)))
          ∙ before.each m d less);
    }
