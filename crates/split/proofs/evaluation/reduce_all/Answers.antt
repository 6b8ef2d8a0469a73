-- `reduce_all` meets its contract: one sum a turn, which no earlier turn has changed.
use mathlib.Core.Path.{◌≡◌, sym, ap, ap₂, ◌∙◌}
use mathlib.Core.List.{List, [], ◌∷◌, ◌++◌, map, map-append}
use Prim.Native.Nat.{ℕ, ◌+◌, ◌%◌, ◌<◌}
use native.Mathlib.Numerals.{add-one}
use native.Mathlib.Omega.{arith}
use lib.ListN.{length, get_or, take, drop, set, length-drop}
use lib.Seq.{take-suc, take-suc-set, get_or-drop, drop-drop, drop-set-lt}
use Rattle.split.proofs.evaluation.reduce_all.Goals as goal

module _ (f : ℕ → ℕ) (old new : List ℕ) (i : ℕ) (inside : i < length new) (same : drop i new ≡ drop i old) where
  -- the number that a turn reads
  kept : get_or new i 0 ≡ get_or old i 0
  kept =
      let at : i ≡ i + 0 = omega arith in
      ap (λ (k : ℕ). get_or new k 0) at
      ∙ sym (get_or-drop i new 0 0)
      ∙ ap (λ (l : List ℕ). get_or l 0 0) same
      ∙ get_or-drop i old 0 0
      ∙ ap (λ (k : ℕ). get_or old k 0) (sym at)

  more : {v : ℕ} → take i new ≡ map f (take i old) → v ≡ f (get_or new i 0)
      → (take (i + 1) (set new i v) ≡ map f (take (i + 1) old)) × (drop (i + 1) (set new i v) ≡ drop (i + 1) old)
  more {v} done is =
      let room : i < length old = omega (arith, ap length same, length-drop i new, length-drop i old) in (
        ap (λ (k : ℕ). take k (set new i v)) (add-one i) ∙ take-suc-set new i v inside
            ∙ ap₂ (λ (l : List ℕ) (x : ℕ). l ++ (x ∷ [])) done (is ∙ ap f kept)
            ∙ sym (map-append f (take i old) (get_or old i 0 ∷ []))
            ∙ ap (map f) (sym (ap (λ (k : ℕ). take k old) (add-one i) ∙ take-suc old i 0 room)),
        drop-set-lt (i + 1) new i v (omega arith) ∙ sym (drop-drop 1 i new) ∙ ap (drop 1) same ∙ drop-drop 1 i old,
      )

pub loop-sum-preserved : goal.loop-sum-preserved
loop-sum-preserved c = let l = c.loop-sum in
    more (λ (s : ℕ). (c.args.first + s) % c.args.reducer.q) c.args.sums.now l.sum-items l.sum-index (omega arith) l.invariant.1 l.invariant.0
    (c.reduce.ensures ∙ ap (λ (x : ℕ). x % c.args.reducer.q) (ap₂ ◌+◌ c.from.ensures c.from-in-loop-sum.ensures))
