-- What a play that writes a row does to the place and the row count, whatever the session and the file.
-- Assumes nothing.
use mathlib.Core.Path.{◌≡◌, refl, sym, ◌∙◌}
use mathlib.Core.Bool.{true, false, true≢false}
use mathlib.Core.List.{List}
use Prim.Native.Nat.{ℕ, ◌+◌, ◌≤◌, ◌<◌}
use native.Mathlib.Omega.{arith}
use lib.ListN.{length}
use Rattle.session_rules.specs.Play.{Session, Step, ends_with, step}
use Rattle.session_rules.specs.Ordinals.{is_before_first, Numbered}
use Rattle.session_rules.proofs.Cases.{step_by}

pub record Motion (s : Session) (file : List ℕ) (x : Step) : Type 0 where
  -- a session that goes on has its place past a command that lies in the file, and one row more
  pub forward : x.session.ended ≡ false → (s.place < x.session.place) × (x.session.place ≤ length file)
  pub counts : x.session.ended ≡ false → x.session.rows ≡ s.rows + 1
  -- one that ends has them left
  pub stays : x.session.ended ≡ true → (x.session.place ≡ s.place) × (x.session.rows ≡ s.rows)
  -- the row has the next ordinal, or stands before the first command
  pub numbered : Numbered s file s.rows x

module _ (s : Session) (file : List ℕ) where
  -- a row that ends the session
  ended : (ordinal byte number : ℕ) → Numbered s file s.rows (ends_with s ordinal byte number) → Motion s file (ends_with s ordinal byte number)
  ended ordinal byte number n = record {
    forward = λ f. absurd (true≢false f);
    counts = λ f. absurd (true≢false f);
    stays = λ f. (refl, refl);
    numbered = n;
  }

  -- the row of a command
  commanded : (x : Step) → is_before_first s file ≡ false → x.ordinal ≡ s.rows + 1 → Numbered s file s.rows x
  commanded x c e = record { before = λ f. absurd (true≢false (sym f ∙ c)); counted = λ f. e }

  pub motion : Motion s file (step s file)
  motion =
      step_by s file (Motion s file)
      (λ n e f b. ended 0 0 n (record { before = λ t. b; counted = λ t. absurd (true≢false (sym f ∙ t)) }))
      (λ n e c. ended (s.rows + 1) _ n (commanded _ c refl)) (λ c z. ended (s.rows + 1) 0 0 (commanded _ c refl))
      (λ g. record {
        forward = λ f. (omega (arith, g.later), g.allowed.whole);
        counts = λ f. refl;
        stays = λ f. absurd (true≢false (sym f));
        numbered = commanded _ g.behind refl;
      })
