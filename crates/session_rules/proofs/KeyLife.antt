-- A key with a life, over any list of plays of a file from a session just opened, whatever row buffers they are lent. For each loading of a key and while that
-- key is held, the session holds it with a number of signatures left, and the signatures given since the loading plus those left equal the number last
-- granted plus those given before that grant, the 65535 at loading being the first grant. What was given and granted is read from the commands and their
-- rows, refused ones among them; the number left is the session's own. It decides 17: a 06 that does not end the session is refused with 10 just where
-- points, key or message are not held, else with 17 just where none is left. A session holds no key but one that was loaded and is held since.
-- Assumes nothing.
use mathlib.Core.Path.{◌≡◌, sym, ◌∙◌}
use mathlib.Core.Bool.{true≢false}
use mathlib.Core.List.{List}
use mathlib.Core.Logic.{⊎_elim}
use mathlib.Core.Option.{Option, some}
use Prim.Native.Nat.{ℕ}
use native.Mathlib.Omega.{arith}
use borrow.Author.Tests.{eqb-true, eq-eqb, ne_eqb, not-true, not-false}
use Rattle.algebra.proofs.Test.{holds_true}
use Rattle.session_rules.specs.Held.{HeldKey}
use Rattle.session_rules.specs.Play.{opened}
use Rattle.session_rules.specs.Plays.{events, no_material}
use Rattle.session_rules.specs.HeldIsRead.{none_available, available_after, can_sign}
use Rattle.session_rules.specs.After.{after}
use Rattle.session_rules.specs.KeyLife.{KeyLife}
use Rattle.session_rules.proofs.Kept.{held_as, is_available}
use Rattle.session_rules.proofs.Reaching.{kept_after}
use Rattle.session_rules.proofs.Account.{each_tested, tested_front, tested_at, account_of, loaded_by}

-- a key by its bytes
same_key : {b c : List ℕ} {n : ℕ} → b ≡ c → ◌≡◌ {A = Option HeldKey} (some (record { bytes = b; left = n })) (some (record { bytes = c; left = n }))
same_key e = rw e

pub key_life : (file : List ℕ) (buffers : List (List ℕ)) → KeyLife (events file buffers) (after opened file buffers).held
unfolding none_available
key_life file buffers =
    let es = events file buffers in
    let w = kept_after file buffers in
    let tested = each_tested file buffers in
    record {
      account = λ l.
          let r = account_of es l no_material none_available tested in
          record { left = (available_after no_material none_available es).left; key = held_as w.key r.key ∙ same_key r.bytes; balanced = r.balance };
      loaded = λ t.
          let available = sym (is_available w.key) ∙ holds_true _ t in
          ⊎_elim (λ x. absurd (true≢false (sym x.0))) (λ l. l) (loaded_by es no_material none_available available);
      lacks = λ front e rest is six goes.
          let same = (tested_at front e rest no_material none_available (rw is at tested) six goes).lacks in
          let can = can_sign (available_after no_material none_available front) in
          (λ n. not-true can (sym (rw n at same)), λ cannot. eqb-true e.number 10 (rw cannot at same));
      decides = λ front e rest is six goes other l.
          let split = rw is at tested in
          let r = account_of front l no_material none_available (tested_front front _ no_material none_available split) in
          let z = available_after no_material none_available front in
          let now = tested_at front e rest no_material none_available split six goes in
          let same = now.spent (not-false (can_sign z) (sym now.lacks ∙ ne_eqb e.number 10 other)) in (
            λ n. let none = eqb-true z.left 0 (sym (rw n at same)) in rw none at r.balance,
            λ b. eqb-true e.number 17 (same ∙ eq-eqb z.left 0 (omega (arith, r.balance, b))),
          );
    }
