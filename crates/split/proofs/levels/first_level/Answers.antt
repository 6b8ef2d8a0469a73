-- `first_level` meets its contract: thirds, or nothing.
use mathlib.Core.Path.{◌≡◌, sym, subst}
use mathlib.Core.List.{List}
use mathlib.Core.Logic.{⊎_elim}
use Prim.Native.Nat.{ℕ, ◌*◌, ◌/◌}
use native.Mathlib.Omega.{arith}
use lib.ListN.{length, get_or}
use Rattle.split.specs.Levels.{UnderIn, Tripled, Tree, CutFurther, JoinedFurther, Threefold, root_of}
use Rattle.split.proofs.FirstLevel.{thirds_size, thirds_under, thirds_threefold, thirds_further, thirds_back, none_further}
use Rattle.split.proofs.levels.first_level.Goals as goal

-- what thirds give, where start is 3
given : {q l start : ℕ} {twists old new : List ℕ} → Tree q start twists → start ≡ 3 → length old ≡ length twists * l → UnderIn (48 * q) old 0 (length old)
    → Tripled q (get_or twists 1 0) (get_or twists 2 0) (length twists / 3 * l) old new (length twists / 3 * l)
    → Threefold q old new
    × (CutFurther q l (root_of q twists) 1 (length twists) old start (length twists / start) new
    × JoinedFurther q l (root_of q twists) start (length twists / start) old 1 (length twists) new)
given {q} {l} {start} {twists} {old} {new} tree e room under thirds =
    let tree3 = subst (λ (n : ℕ). Tree q n twists) e tree in
    subst
    (λ (n : ℕ). Threefold q old new
    × (CutFurther q l (root_of q twists) 1 (length twists) old n (length twists / n) new
    × JoinedFurther q l (root_of q twists) n (length twists / n) old 1 (length twists) new)) (sym e)
    (thirds_threefold tree3 l room under thirds, (thirds_further tree3 l room under thirds, thirds_back tree3 l room under thirds))

one : {q start : ℕ} {twists : List ℕ} → Tree q start twists → (start ≡ 3 → ⊥) → start ≡ 1
one tree other = ⊎_elim (λ e. e) (λ e. absurd (other e)) tree.starts

pub take_thirds-requires-clause-h_in_bounds : goal.take_thirds-requires-clause-h_in_bounds
take_thirds-requires-clause-h_in_bounds c = let s = c.args.stages.now in
    let tree3 = subst (λ (n : ℕ). Tree s.reducer.q n s.twists.now) c.if-stages-eq3.true s.staged.tree in
    let room = c.requires.x_len.0 in
    let under = c.requires.x_len.1 in
    (omega (arith, thirds_size tree3 s.l room under), omega (arith, s.staged.room), thirds_under tree3 s.l room under)

pub returns-then-stages-eq3-clause-grown : goal.returns-then-stages-eq3-clause-grown
returns-then-stages-eq3-clause-grown c = let s = c.args.stages.now in
    (given s.staged.tree c.if-stages-eq3.true c.requires.x_len.0 c.requires.x_len.1 c.take_thirds.ensures).0

pub returns-then-stages-eq3-clause-cut : goal.returns-then-stages-eq3-clause-cut
returns-then-stages-eq3-clause-cut c = let s = c.args.stages.now in
    (given s.staged.tree c.if-stages-eq3.true c.requires.x_len.0 c.requires.x_len.1 c.take_thirds.ensures).1.0

pub returns-then-stages-eq3-clause-joined : goal.returns-then-stages-eq3-clause-joined
returns-then-stages-eq3-clause-joined c = let s = c.args.stages.now in
    (given s.staged.tree c.if-stages-eq3.true c.requires.x_len.0 c.requires.x_len.1 c.take_thirds.ensures).1.1

pub returns-else-stages-eq3-clause-cut : goal.returns-else-stages-eq3-clause-cut
returns-else-stages-eq3-clause-cut c = let s = c.args.stages.now in
    none_further s.reducer.q s.l s.twists.now c.args.x.now (one s.staged.tree c.if-stages-eq3.false)
