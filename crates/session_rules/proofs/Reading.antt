-- What a play reads of the file, and what was read by the plays before it.
-- Assumes nothing.
use mathlib.Core.Path.{◌≡◌, refl, sym, ap, ap₂, ◌∙◌}
use mathlib.Core.Bool.{Bool, true, false, true≢false, not, ◌&&◌, ◌||◌, cond}
use mathlib.Core.List.{List, [], ◌∷◌, ◌++◌, append_assoc, append-nil}
use mathlib.Core.Option.{Option, none}
use Prim.Native.Nat.{ℕ, suc, ◌+◌, ◌≤◌, ◌<◌}
use native.Mathlib.Numerals.{add-one}
use native.Mathlib.Omega.{arith}
use lib.Dec.{T, ltb, leb, eqb, eqb→eq}
use lib.ListN.{length, get_or, take, drop, length-append}
use lib.Seq.{take-suc, take-add}
use borrow.Author.Tests.{lt-ltb, ne_eqb}
use Rattle.algebra.proofs.Test.{and_left, and_right, true_holds, by_test}
use Rattle.session_rules.specs.Held.{Chosen, params_of}
use Rattle.session_rules.specs.CommandTable.{is_known, command_of}
use Rattle.session_rules.specs.Play.{Session, opened, Step, is_tagged, lacks_set, byte_due, size_due, operand_due, step, Outcome}
use Rattle.session_rules.specs.Plays.{Event, event_of, events_from, events, Material, no_material, params_in}
use Rattle.session_rules.specs.HeldIsRead.{Available, none_available}
use Rattle.session_rules.specs.Refusals.{is_ending}
use Rattle.session_rules.specs.After.{after}
use Rattle.session_rules.specs.Ordinals.{is_before_first}
use Rattle.session_rules.specs.FilePlayed.{tag, command_bytes, behind_tag, bytes_read, LastRow, IsSized, EachSized}
use Rattle.session_rules.proofs.After.{play_by}
use Rattle.session_rules.proofs.Ending.{ended_stays}
use Rattle.session_rules.proofs.Cases.{place_due, operand_whole, step_by}
use Rattle.session_rules.proofs.CommandTable.{free_size}
use Rattle.session_rules.proofs.Kept.{TestedSet, Kept, gone, kept, KeptAll}
use Rattle.session_rules.proofs.Reaching.{kept_opened, row_event, plays_by}

-- ---- one command more

commands_more : (es : List Event) (e : Event) → command_bytes (es ++ (e ∷ [])) ≡ command_bytes es ++ (e.byte ∷ e.operand)
commands_more [] e = rw (append-nil e.operand)
commands_more (d ∷ es) e =
    ap (λ (l : List ℕ). d.byte ∷ l)
    (ap (λ (l : List ℕ). d.operand ++ l) (commands_more es e) ∙ sym (append_assoc d.operand (command_bytes es) (e.byte ∷ e.operand)))

bytes_more : (es : List Event) (e : Event) → bytes_read (es ++ (e ∷ [])) ≡ behind_tag es ++ (e.byte ∷ e.operand)
bytes_more [] e = ap (λ (l : List ℕ). tag ++ l) (commands_more [] e)
bytes_more (d ∷ es) e = ap (λ (l : List ℕ). tag ++ l) (commands_more (d ∷ es) e)

-- ---- the tag

tag_of : (x : Bool) (a b c d : ℕ) → T (x && (eqb a 0x50 && (eqb b 0x53 && (eqb c 0x47 && eqb d 0x31)))) → a ∷ b ∷ c ∷ d ∷ [] ≡ tag
tag_of x a b c d t =
    let u = and_right x _ t in
    let v = and_right (eqb a 0x50) _ u in
    let w = and_right (eqb b 0x53) _ v in
    rw (
      eqb→eq a 0x50 (and_left (eqb a 0x50) _ u),
      eqb→eq b 0x53 (and_left (eqb b 0x53) _ v),
      eqb→eq c 0x47 (and_left (eqb c 0x47) _ w),
      eqb→eq d 0x31 (and_right (eqb c 0x47) _ w),
    )

tagged : (file : List ℕ) → is_tagged file ≡ true → take 4 file ≡ tag
unfolding is_tagged
tagged [] e = absurd (true≢false (sym e))
tagged (a ∷ []) e = absurd (true≢false (sym e))
tagged (a ∷ b ∷ []) e = absurd (true≢false (sym e))
tagged (a ∷ b ∷ c ∷ []) e = absurd (true≢false (sym e))
tagged (a ∷ b ∷ c ∷ d ∷ rest) e = tag_of (leb 4 (length (a ∷ b ∷ c ∷ d ∷ rest))) a b c d (true_holds e)

-- a first play that is not refused before the first command
first_tagged : (long tagged : Bool) → (long || not tagged) ≡ false → tagged ≡ true
first_tagged true x e = absurd (true≢false e)
first_tagged false true e = refl
first_tagged false false e = absurd (true≢false e)

module _ (file : List ℕ) where
  -- ---- one play

  -- byte and operand at a place, behind what lies before it
  one_more : (at size : ℕ) → at + 1 + size ≤ length file
      → take (at + 1 + size) file ≡ take at file ++ (get_or file at 0 ∷ operand_due file at size)
  one_more at size h =
      take-add (at + 1) size file
      ∙ rw (add-one at, take-suc file at 0 (omega arith)) (append_assoc (take at file) (get_or file at 0 ∷ []) (take size (drop (suc at) file)))

  -- a row of session s: a command that goes on reads byte and operand at the place due; a row that ends the session has the byte there, or stands before
  -- the first command
  pub record StepReads (s : Session) (x : Step) : Type 0 where
    pub reads : x.session.ended ≡ false → take x.session.place file ≡ take (place_due s) file ++ (x.byte ∷ x.operand)
    pub next : x.session.ended ≡ false → x.session.place ≡ place_due s + length (x.byte ∷ x.operand)
    pub going : x.session.ended ≡ false → is_before_first s file ≡ false
    pub byte : is_before_first s file ≡ false → x.byte ≡ get_or file (place_due s) 0
    pub operand : x.session.ended ≡ true → x.operand ≡ []
    pub early : is_before_first s file ≡ true → (x.byte ≡ 0) × (x.number ≡ cond (ltb 65536 (length file)) 1 15)

  pub step_reads : (s : Session) → StepReads s (step s file)
  step_reads s =
      step_by s file (StepReads s)
      (λ n e f b. record {
        reads = λ g. absurd (true≢false g);
        next = λ g. absurd (true≢false g);
        going = λ g. absurd (true≢false g);
        byte = λ g. absurd (true≢false (sym f ∙ g));
        operand = λ g. refl;
        early = λ g. (b.byte, b.number);
      })
      (λ n e f. record {
        reads = λ g. absurd (true≢false g);
        next = λ g. absurd (true≢false g);
        going = λ g. f;
        byte = λ g. refl;
        operand = λ g. refl;
        early = λ g. absurd (true≢false (sym g ∙ f));
      })
      (λ f z. record {
        reads = λ g. absurd (true≢false g);
        next = λ g. absurd (true≢false g);
        going = λ g. f;
        byte = λ g. sym z;
        operand = λ g. refl;
        early = λ g. absurd (true≢false (sym g ∙ f));
      })
      (λ d.
      let at = place_due s in
      let size = size_due file at s.held.set in
      record {
        reads = λ g. one_more at size d.allowed.whole;
        next = λ g. omega (arith, operand_whole file at size d.allowed.whole);
        going = λ g. d.behind;
        byte = λ g. refl;
        operand = λ g. absurd (true≢false (sym g));
        early = λ g. absurd (true≢false (sym g ∙ d.behind));
      })

  -- ---- a list of plays

  -- what the commands es have read, where the session s after them goes on
  pub record Reading (es : List Event) (s : Session) : Type 0 where
    pub goes : s.ended ≡ false
    pub read : take s.place file ≡ bytes_read es
    pub place : s.place ≡ length (bytes_read es)
    -- the first play has seen that the file is not too long, and tagged
    pub begun : (0 < length (bytes_read es)) → is_before_first opened file ≡ false

  pub reading_opened : Reading [] opened
  unfolding opened
  reading_opened = record { goes = refl; read = refl; place = refl; begun = λ h. absurd (omega arith) }

  -- where the next command is due, behind the tag and the commands before it
  due : (es : List Event) (s : Session) → Reading es s → is_before_first s file ≡ false
      → (take (place_due s) file ≡ behind_tag es) × (place_due s ≡ length (behind_tag es))
  due [] s r f =
      let zero = r.place in
      rw zero (tagged file (first_tagged (ltb 65536 (length file)) (is_tagged file) (rw zero at f)), refl)
  due (e ∷ es) s r f =
      let positive = lt-ltb 0 s.place (omega (arith, r.place)) in
      rw positive (r.read, r.place)

  -- whether the file is refused before its first command, told by the session after the commands es
  first_begun : (es : List Event) (s : Session) → Reading es s → is_before_first s file ≡ false → is_before_first opened file ≡ false
  unfolding opened
  first_begun [] s r f = rw r.place at f
  first_begun (e ∷ es) s r f = r.begun (omega arith)

  not_begun : (es : List Event) (s : Session) → Reading es s → is_before_first opened file ≡ true → (es ≡ []) × (is_before_first s file ≡ true)
  unfolding opened
  not_begun [] s r f = (refl, rw r.place f)
  not_begun (e ∷ es) s r f = absurd (true≢false (sym f ∙ r.begun (omega arith)))

  behind_first : (es : List Event) (s : Session) → Reading es s → is_before_first opened file ≡ false → is_before_first s file ≡ false
  unfolding opened
  behind_first [] s r f = rw r.place f
  behind_first (e ∷ es) s r f = rw (ne_eqb s.place 0 (λ z. omega (arith, r.place)))

  -- a play that goes on
  more : (es : List Event) (s : Session) → Reading es s → (e : Event) → e.byte ≡ (step s file).byte → e.operand ≡ (step s file).operand
      → (step s file).session.ended ≡ false → Reading (es ++ (e ∷ [])) (step s file).session
  more es s r e b o g =
      let x = step_reads s in
      let (read, place) = due es s r (x.going g) in
      let bytes = ap₂ (λ (c : ℕ) (l : List ℕ). behind_tag es ++ (c ∷ l)) b o in
      let all = bytes_more es e in
      record {
        goes = g;
        read = x.reads g ∙ ap (λ (l : List ℕ). l ++ ((step s file).byte ∷ (step s file).operand)) read ∙ sym (all ∙ bytes);
        place =
            omega (
              arith,
              x.next g,
              place,
              ap length (all ∙ bytes),
              length-append (behind_tag es) ((step s file).byte ∷ (step s file).operand),
            );
        begun = λ h. first_begun es s r (x.going g);
      }

  -- a play that ends the session
  lasts : (es : List Event) (s : Session) → Reading es s → (e : Event) → e.byte ≡ (step s file).byte → e.operand ≡ (step s file).operand
      → e.number ≡ (step s file).number → (step s file).session.ended ≡ true → LastRow file (es ++ (e ∷ []))
  lasts es s r e b o n g =
      let x = step_reads s in
      record {
        before = es;
        last = e;
        rows = refl;
        early = λ f.
            let (alone, here) = not_begun es s r f in
            record { alone = alone; byte = b ∙ (x.early here).0; operand = o ∙ x.operand g; number = n ∙ (x.early here).1 };
        behind = λ f.
            let here = behind_first es s r f in
            let (read, place) = due es s r here in
            record {
              read = ap (λ (at : ℕ). take at file) (sym place) ∙ read;
              byte = b ∙ x.byte here ∙ ap (λ (at : ℕ). get_or file at 0) place;
              operand = o ∙ x.operand g;
            };
      }

  -- what all plays have read
  pub record ReadBy (es : List Event) (s : Session) : Type 0 where
    pub read : s.ended ≡ false → take s.place file ≡ bytes_read es
    pub place : s.ended ≡ false → s.place ≡ length (bytes_read es)
    pub ends : s.ended ≡ true → LastRow file es

  pub read_from : (s : Session) (es : List Event) → Reading es s → (buffers : List (List ℕ))
      → ReadBy (es ++ events_from s file buffers) (after s file buffers)
  unfolding events_from after
  read_from s es r [] =
      rw (append-nil es) (record { read = λ g. r.read; place = λ g. r.place; ends = λ g. absurd (true≢false (sym g ∙ r.goes)) })
  read_from s es r (buffer ∷ buffers) =
      play_by s file buffer
      (λ (o : Outcome). ReadBy (es ++ (event_of s file o ++ events_from o.session file buffers)) (after o.session file buffers))
      (λ h. read_from s es r buffers) (λ h. read_from s es r buffers)
      (λ h g.
      let e = row_event s file buffer in
      let next = (step s file).session in
      by_test next.ended
      (λ f.
      let (no_more, same) = ended_stays file next f buffers in
      rw (no_more, same) (record {
        read = λ z. absurd (true≢false (sym f ∙ z));
        place = λ z. absurd (true≢false (sym f ∙ z));
        ends = λ z. lasts es s r e refl refl refl f;
      }))
      (λ f. rw (← append_assoc es (e ∷ []) (events_from next file buffers)) (read_from next (es ++ (e ∷ [])) (more es s r e refl refl f) buffers)))

  -- ---- where each command ends

  -- the set that a command's size goes by: the one read, where the command needs one
  sized_by : (m : Material) (b : ℕ) → is_known b ≡ true → {x : Bool} {o : Option Chosen} → Kept TestedSet m.set x o → lacks_set b o ≡ false
      → (command_of b).size (params_of o) ≡ (command_of b).size (params_in m)
  sized_by m b known (kept s) lacks = refl
  sized_by m b known gone lacks =
      by_test (command_of b).needs_set (λ needs. absurd (true≢false (rw needs at lacks))) (free_size (params_of none) (params_in m) b known)

  step_sized : (m : Material) (a : Available) (s : Session) → KeptAll m a s.held → (buffer : List ℕ) → IsSized m (row_event s file buffer)
  step_sized m a s w buffer =
      step_by s file
      (λ (x : Step). is_ending x.number ≡ false → (x.byte ≡ 0 → ⊥) → length x.operand ≡ (command_of x.byte).size (params_in m))
      (λ n e f b g z. absurd (true≢false (e.ending ∙ g))) (λ n e f g z. absurd (true≢false (e.ending ∙ g))) (λ f z g y. absurd (y refl))
      (λ d g z.
      let at = place_due s in
      operand_whole file at (size_due file at s.held.set) d.allowed.whole
      ∙ sized_by m (byte_due file at) d.allowed.known w.set d.allowed.needs)

  pub each_sized : (buffers : List (List ℕ)) → EachSized no_material (events file buffers)
  unfolding events
  each_sized buffers =
      plays_by file (λ (m : Material) (a : Available) (s : Session) (es : List Event) (t : Session). EachSized m es)
      (λ m a s w. tt) (λ m a s w g buffer es t rest. (step_sized m a s w buffer, rest)) no_material none_available opened kept_opened buffers
