-- Playing a file to its end: what a loop of plays keeps, whatever it does between them.
-- Assumes nothing.
use mathlib.Core.Path.{◌≡◌, refl, sym, ap, subst, ◌∙◌}
use mathlib.Core.Bool.{Bool, true, false}
use mathlib.Core.List.{List, [], ◌∷◌, ◌++◌, append_assoc}
use Prim.Native.Nat.{ℕ, ◌<◌}
use lib.Dec.{T}
use lib.ListN.{length, take}
use borrow.Author.Tests.{eq-eqb}
use Rattle.std.specs.List.{FoldsTo}
use Rattle.std.proofs.lemmas.List.{append-nil}
use Rattle.algebra.specs.All.{all}
use Rattle.algebra.proofs.Test.{and_left, and_right, and_intro, true_holds}
use Rattle.session_rules.specs.Play.{Session, opened, is_row, Outcome, is_right, play}
use Rattle.session_rules.specs.Rows.{row_size}
use Rattle.session_rules.proofs.Ending.{plays_left, rowless_ended, fewer_left}
use Rattle.session_rules.proofs.EveryFileEnds.{one_end_of_file}
use Rattle.session.specs.declared.PlayAnswer.{PlayAnswer}
use Rattle.session.specs.Played.{play_answer_of, outcome_of}
use Rattle.session.specs.Turns.{Turn, given, Turns, lent_by, last_session}
use Rattle.session.specs.WholeFile.{PlayedTo, PlayedWhole, rows_written, PlayedEach}
use Rattle.session.proofs.TurnsByRules.{turns_after}

module _ (file : List ℕ) where
  -- ---- one turn more

  module _ (t : Turn) where
    turns_more : (s : Session) (ts : List Turn) → Turns s file ts → given t ≡ play (last_session s ts) file t.buffer_before → Turns s file (ts ++ (t ∷ []))
    unfolding last_session
    turns_more s [] h e = (e, tt)
    turns_more s (u ∷ ts) h e = (h.0, turns_more u.session ts h.1 e)

    last_more : (s : Session) (ts : List Turn) → last_session s (ts ++ (t ∷ [])) ≡ t.session
    unfolding last_session
    last_more s [] = refl
    last_more s (u ∷ ts) = last_more u.session ts

    right_more : T (is_right t.buffer_before) → (ts : List Turn) → T (all is_right (lent_by ts)) → T (all is_right (lent_by (ts ++ (t ∷ []))))
    right_more r [] a = and_intro (is_right t.buffer_before) true r tt
    right_more r (u ∷ ts) a =
        let right = is_right u.buffer_before in
        and_intro right (all is_right (lent_by (ts ++ (t ∷ [])))) (and_left right (all is_right (lent_by ts)) a)
        (right_more r ts (and_right right (all is_right (lent_by ts)) a))

  -- ---- what a loop keeps

  -- before the first play
  pub played_none : PlayedTo file opened
  unfolding last_session
  played_none = record { turns = []; allowed = tt; right = tt; last = refl }

  -- a play with a right row buffer, as its contract has it
  module _ (s next : Session) (r : PlayAnswer) (before new : List ℕ) (size : length before ≡ 16384) (met : outcome_of r next new ≡ play s file before) where
    answered : is_row (play s file before).answer ≡ is_row (play_answer_of r)
    answered = sym (ap (λ (o : Outcome). is_row o.answer) met)

    left : (play s file before).session ≡ next
    left = sym (ap (λ (o : Outcome). o.session) met)

    pub played_more : PlayedTo file s → PlayedTo file next
    played_more p =
        let t : Turn = record { buffer_before = before; answer = r; session = next; buffer_after = new } in
        record {
          turns = p.turns ++ (t ∷ []);
          allowed = turns_more t opened p.turns p.allowed (rw p.last met);
          right = right_more t (true_holds (eq-eqb (length before) 16384 size)) p.turns p.right;
          last = last_more t opened p.turns;
        }

    -- fewer plays are to come, whether it wrote a row or not
    pub fewer : {wrote : Bool} → is_row (play_answer_of r) ≡ wrote → plays_left file next wrote < plays_left file s true
    fewer {wrote} e =
        subst (λ (x : Session). plays_left file x wrote < plays_left file s true) left
        (subst (λ (w : Bool). plays_left file (play s file before).session w < plays_left file s true) (answered ∙ e) (fewer_left s file before size))

    -- where it wrote none, the file has been played to its end
    pub played_whole : is_row (play_answer_of r) ≡ false → PlayedTo file s → PlayedWhole file next
    played_whole e p =
        let m = played_more p in
        let ended = ap (λ (x : Session). x.ended) (sym left) ∙ rowless_ended s file before size (answered ∙ e) in
        let is = sym m.last ∙ turns_after file m.turns m.allowed in
        record { played = m; ended = ended; session = is ∙ one_end_of_file file (lent_by m.turns) m.right (ap (λ (x : Session). x.ended) (sym is) ∙ ended) }

-- ---- what is called between the plays

module _ {F : Type 0} (R : F → List ℕ → F → Type 0) where
  folds_more : (f : F) {f' last : F} (rows : List (List ℕ)) {row : List ℕ} → FoldsTo R f rows f' → R f' row last → FoldsTo R f (rows ++ (row ∷ [])) last
  folds_more f {last = last} [] {row} e r = (last, subst (λ (g : F). R g row last) (sym e) r, refl)
  folds_more f (x ∷ rows) h r = (h.0, h.1, folds_more h.0 rows h.2 r)

  module _ (f : F) (file : List ℕ) where
    -- called at each row so far, f has become f'
    pub record Handed (s : Session) (f' : F) : Type 0 where
      pub reached : PlayedTo file s
      pub calls : FoldsTo R f (rows_written reached.turns) f'

    pub handed_none : Handed opened f
    unfolding played_none
    handed_none = record { reached = played_none file; calls = refl }

    -- the rows of one turn more
    rows_more : (t : Turn) (ts : List Turn) → rows_written (ts ++ (t ∷ [])) ≡ rows_written ts ++ rows_written (t ∷ [])
    rows_more t [] = refl
    rows_more t (u ∷ ts) = rw (rows_more t ts) (simp append_assoc)

    module _ (s next : Session) (r : PlayAnswer) (before new : List ℕ) (size : length before ≡ 16384) (met : outcome_of r next new ≡ play s file before) {f' : F}
        (h : Handed s f') where
      abbrev turn : Turn
      turn = record { buffer_before = before; answer = r; session = next; buffer_after = new }

      pub handed_more : is_row (play_answer_of r) ≡ true → {last : F} → R f' (take (row_size new) new) last → Handed next last
      unfolding played_more
      handed_more e called = record {
        reached = played_more file s next r before new size met h.reached;
        calls = rw (rows_more turn h.reached.turns, e) (folds_more f (rows_written h.reached.turns) h.calls called);
      }

      pub handed_whole : is_row (play_answer_of r) ≡ false → PlayedEach R f file next
      unfolding played_more played_whole
      handed_whole e = record {
        whole = played_whole file s next r before new size met e h.reached;
        last = f';
        calls = rw (rows_more turn h.reached.turns, e, append-nil (rows_written h.reached.turns)) h.calls;
      }
