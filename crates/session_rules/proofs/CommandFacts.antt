-- One command, played with what is held, which is what is read: so it is after the command. What an accepted 06 signs with, what a refusal leaves, and
-- how much the command adds to its row.
-- Assumes nothing.
use mathlib.Core.Path.{◌≡◌, refl, sym, subst, ap, ◌∙◌}
use mathlib.Core.Bool.{Bool, true, false, not, ◌&&◌, true≢false, cond}
use mathlib.Core.List.{List, [], ◌∷◌, ◌++◌, map, flatten}
use mathlib.Core.Option.{Option, some}
use Prim.Native.Nat.{ℕ, suc, ◌+◌, ◌-◌, ◌*◌, ◌/◌, ◌≤◌, ◌<◌}
use native.Mathlib.Omega.{arith}
use lib.Dec.{T, leb, eqb}
use lib.IntN.{ℤ}
use lib.ListN.{length, get_or, drop, length-append, length-map, length-drop}
use borrow.Author.Tests.{ltb-true, leb-false, eqb-false, eq-eqb, ne_eqb, not-true, not-false}
use Rattle.algebra.specs.All.{all}
use Rattle.algebra.proofs.All.{all-append, all-drop}
use Rattle.algebra.proofs.Test.{holds_true, true_holds, cond_by, by_test}
use Rattle.algebra.specs.Integer.{within}
use Rattle.parameters.specs.declared.Params.{Params}
use Rattle.parameters.specs.Sets.{is_set}
use Rattle.polynomial.proofs.EvaluationLaws.{length-evaluations, length-evaluation_residues, evaluation_residues_below}
use Rattle.polynomial.proofs.SignedForm.{evaluations-within}
use Rattle.challenge.specs.Pool.{is_rule}
use Rattle.encoding.specs.Bytes.{value_of, numbers, signed16}
use Rattle.encoding.specs.Challenge.{are_entries}
use Rattle.encoding.specs.Encoding.{is_key_byte, key_coefficient, are_exponents, are_evaluations, public_key, entries_in}
use Rattle.encoding.proofs.Parts.{length-numbers}
use Rattle.refusal.specs.Numbers.{none_passes, not_held, none_left}
use Rattle.refusal.specs.Signing.{Signing}
use Rattle.refusal.specs.Signing as signing
use Rattle.refusal.specs.Verdict.{Verdict}
use Rattle.signing.specs.Sign.{sign_answer, sign_written}
use Rattle.checking.specs.Check.{verdict_after, check_answer}
use Rattle.passign.specs.Hiding.{our_library}
use Rattle.passign.proofs.SignatureSize.{entry_signature_size}
use Rattle.text.specs.Text.{decimal, hex, spaced}
use Rattle.text.proofs.Text.{length-decimal, length-hex, length-spaced_integers}
use Rattle.session_rules.specs.Held.{Chosen, params_of, Held, is_held, given, left_of, with_masks}
use Rattle.session_rules.specs.CommandTable.{command_table, is_known, command_of, for_loading, for_signing, for_checking, for_granting}
use Rattle.session_rules.specs.Commands.{Payload, nothing, values, signed, judged, Result, accepted, refused}
use Rattle.session_rules.specs.Commands.{key_evaluations, key_residues, loaded_key, mask_of, signature_room, command_in, command}
use Rattle.session_rules.specs.Commands.{choose_set, choose_rule, load_exponents, load_key, load_mask, load_message, load_evaluations}
use Rattle.session_rules.specs.Commands.{after_signing, call_signing, sign, after_check, check, grant}
use Rattle.session_rules.specs.Rows.{payload_text}
use Rattle.session_rules.specs.Play.{lacks_set}
use Rattle.session_rules.specs.Plays.{Event, Material, params_in, read_set, call_with, chosen_by, first_passing, with_accepted, with_command}
use Rattle.session_rules.specs.HeldIsRead.{Available, available_with_accepted, available_with, can_sign, key_read}
use Rattle.session_rules.specs.Verdicts.{holds_of, verdict_printed}
use Rattle.session_rules.specs.PrintedEvaluations.{evaluations_printed}
use Rattle.session_rules.specs.Refusals.{is_ending}
use Rattle.session_rules.proofs.CommandTable.{by_needing, by_free, command_set, command_rule, command_in_lem}
use Rattle.session_rules.proofs.Kept.{TestedSet, is_mask, Kept, gone, kept, is_available, kept_as, needed, KeptAll}
use Rattle.session_rules.proofs.Kept.{keep_rule, keep_exponents, keep_key, keep_left, keep_evaluations, keep_message, keep_masks, only_set_lem}
use Rattle.session_rules.proofs.Library.{sound, fitting, sign_refused, check_by_rule}

-- a command that was played; what is read of it does not look at its buffer
abbrev pub played : ℕ → List ℕ → ℕ → Event
played b op n = record { byte = b; operand = op; number = n; buffer = [] }

-- the library's signing with the material, its answer and its bytes
module _ (m : Material) where
  abbrev pub answer_with : Signing
  answer_with = our_library.signs (call_with m)

  abbrev pub bytes_with : List ℕ
  bytes_with = our_library.writes (call_with m)

  -- it accepts, by the first mask that passes, and the row has its bytes
  pub record SignedWith (x : Payload) : Type 0 where
    pub set : TestedSet m.set
    pub answer : answer_with ≡ signing.Signed (first_passing m)
    pub payload : x ≡ signed (first_passing m) bytes_with

  -- it refuses with 9
  pub record NineWith : Type 0 where
    pub set : TestedSet m.set
    pub answer : answer_with ≡ signing.Refused none_passes

-- a refusal leaves what is held, save that 9 drops all masks, has its number alone, and ends the session with an ending number only
pub record RefusalFacts (h : Held) (ended : Bool) (d : Result) : Type 0 where
  pub leaves : d.held ≡ cond (eqb d.number none_passes) (with_masks h []) h
  pub alone : d.payload ≡ nothing
  pub ends : ended ≡ is_ending d.number

-- a 06 that does not end the session is refused with 10 just where something that it needs is not available, else with 17 just where no signature is left
pub record SigningTested (a : Available) (n : ℕ) : Type 0 where
  pub lacks : eqb n not_held ≡ not (can_sign a)
  pub spent : can_sign a ≡ true → eqb n none_left ≡ eqb a.left 0

abbrev pub TestedBy : Available → ℕ → ℕ → Type 0
TestedBy a b n = b ≡ 6 → is_ending n ≡ false → SigningTested a n

-- what is held after a command is what is read, a 06 signs with the material or finds that no mask passes or that no signature is left, an accepted 00
-- alone ends the session, and the row has room: fewer than 1,153 evaluations of twelve bytes each, or a signature of at most 2,435 bytes in hex
pub record CommandFacts (m : Material) (a : Available) (h : Held) (b : ℕ) (op : List ℕ) (ended : Bool) (d : Result) : Type 0 where
  pub keeps : KeptAll (with_command m (played b op d.number)) (available_with m a (played b op d.number)) d.held
  pub signs : b ≡ 6 → d.number ≡ 0 → SignedWith m d.payload
  pub nine : b ≡ 6 → d.number ≡ none_passes → NineWith m
  pub tested : TestedBy a b d.number
  pub judges : b ≡ 7 → d.number ≡ 0 → d.payload ≡ verdict_printed m a op
  pub prints : b ≡ 3 → d.number ≡ 0 → d.payload ≡ evaluations_printed m a op
  pub refusal : (d.number ≡ 0 → ⊥) → RefusalFacts h ended d
  pub accepted_ends : d.number ≡ 0 → ended ≡ eqb b 0
  pub short : length (payload_text d.payload) ≤ 13900

module _ (m : Material) (a : Available) (h : Held) (w : KeptAll m a h) (op : List ℕ) where
  -- a refusal other than 9 leaves all as it was
  pub refused_facts : (b n : ℕ) {ended : Bool} → eqb n 0 ≡ false → eqb n 9 ≡ false → ended ≡ is_ending n → TestedBy a b n
      → CommandFacts m a h b op ended (refused n h)
  unfolding with_command available_with
  refused_facts b n z q e tested = record {
    keeps = rw (z, q) w;
    signs = λ s y. absurd (eqb-false n 0 z y);
    nine = λ s y. absurd (eqb-false n 9 q y);
    tested = tested;
    judges = λ s y. absurd (eqb-false n 0 z y);
    prints = λ s y. absurd (eqb-false n 0 z y);
    refusal = λ y. record { leaves = rw q; alone = refl; ends = e };
    accepted_ends = λ y. absurd (eqb-false n 0 z y);
    short = omega arith;
  }

  -- an accepted command other than 06 and 07
  pub accepted_facts : (b : ℕ) {ended : Bool} {next : Held} {x : Payload} → eqb b 6 ≡ false → eqb b 7 ≡ false → ended ≡ eqb b 0
      → (b ≡ 3 → x ≡ evaluations_printed m a op) → length (payload_text x) ≤ 13900
      → KeptAll (with_command m (played b op 0)) (available_with m a (played b op 0)) next → CommandFacts m a h b op ended (accepted next x)
  accepted_facts b other seventh ends printed short keeps = record {
    keeps = keeps;
    signs = λ s y. absurd (eqb-false b 6 other s);
    nine = λ s y. absurd (eqb-false b 6 other s);
    tested = λ s. absurd (eqb-false b 6 other s);
    judges = λ s y. absurd (eqb-false b 7 seventh s);
    prints = λ s y. printed s;
    refusal = λ y. absurd (y refl);
    accepted_ends = λ y. ends;
    short = short;
  }

  -- a command that goes on
  abbrev Facts : ℕ → Result → Type 0
  Facts b d = CommandFacts m a h b op false d

  -- a test of a command other than 06, with the refusal n
  unless : (b n : ℕ) → eqb n 0 ≡ false → eqb n 9 ≡ false → false ≡ is_ending n → eqb b 6 ≡ false → (x : Bool) {d : Result} → (x ≡ true → Facts b d)
      → Facts b (cond (not x) (refused n h) d)
  unless b n z q e other x f =
      cond_by (Facts b) (not x) (λ t. refused_facts b n z q e (λ six. absurd (eqb-false b 6 other six))) (λ t. f (not-false x t))

  set_facts : Facts 1 (choose_set h op)
  unfolding choose_set with_command with_accepted available_with available_with_accepted
  set_facts =
      let byte = get_or op 0 0 in
      unless 1 2 refl refl refl refl (is_set byte)
      (λ e. accepted_facts 1 refl refl refl (λ three. absurd (omega arith)) (omega arith)
      (only_set_lem (read_set m (chosen_by byte)) a.values a.left w.rule (kept (record { known = ltb-true byte 5 e; own = refl }))))

  rule_facts : Facts 11 (choose_rule h op)
  unfolding choose_rule with_command with_accepted available_with available_with_accepted
  rule_facts =
      let byte = get_or op 0 0 in
      unless 11 18 refl refl refl refl (is_rule byte)
      (λ e. accepted_facts 11 refl refl refl (λ three. absurd (omega arith)) (omega arith) (keep_rule w byte (record { known = e })))

  -- in the set read
  module _ (s : TestedSet m.set) where
    abbrev p : Params
    p = params_in m

    abbrev c : Chosen
    c = m.set

    exponents_facts : Facts 2 (load_exponents c h op)
    unfolding load_exponents with_command with_accepted available_with available_with_accepted
    exponents_facts =
        let js = numbers 2 p.t op in
        unless 2 4 refl refl refl refl (are_exponents p js)
        (λ e. accepted_facts 2 refl refl refl (λ three. absurd (omega arith)) (omega arith)
        (keep_evaluations (keep_key (keep_exponents w js (kept (record { size = length-numbers 2 p.t op; rise = e }))) (key_read m a) gone) _ gone))

    key_facts : T (is_held h.exponents) → length op ≡ p.n → Facts 3 (load_key c h op)
    unfolding load_key with_command with_accepted available_with available_with_accepted
    key_facts j size =
        let (held, tested) = needed w.exponents j in
        let f = map key_coefficient op in
        let js = given h.exponents in
        let same = ap given held in
        let points = ap length same ∙ tested.size in
        let es = key_evaluations p js op in
        let vs = key_residues p js op in
        let count = length-evaluation_residues p f js ∙ points in
        let below = evaluation_residues_below (sound s) f js in
        let few = length-evaluations p f js ∙ points in
        let text = length-spaced_integers (p.q / 2) es (omega (arith, (fitting s).modulus)) (evaluations-within (sound s) f js) in
        unless 3 5 refl refl refl refl (all is_key_byte op)
        (λ e. accepted_facts 3 refl refl refl (λ three. ap (λ (l : List ℕ). values (key_evaluations p l op)) same)
        (omega (arith, text, few, (fitting s).exponents, (fitting s).size))
        (keep_evaluations (keep_key w (loaded_key op) (kept (record { size = size; bytes = e }))) _
        (kept_as (ap (λ (l : List ℕ). key_residues p l op) same) (record { size = count; below = holds_true (are_evaluations p vs) below }))))

    mask_facts : Facts 4 (load_mask c h op)
    unfolding load_mask with_command with_accepted available_with available_with_accepted
    mask_facts =
        let y = mask_of p op in
        let count = length-map (numbers 2 p.n op) signed16 ∙ length-numbers 2 p.n op in
        cond_by (Facts 4) (leb 8 (length h.masks)) (λ f. refused_facts 4 8 refl refl refl (λ six. absurd (omega arith)))
        (λ f. unless 4 6 refl refl refl refl (within p.k y)
        (λ e. accepted_facts 4 refl refl refl (λ three. absurd (omega arith)) (omega arith)
        (keep_masks w (ap (λ (l : List (List ℤ)). l ++ (y ∷ [])) w.masks.0) (record {
          each =
              rw (
                all-append (is_mask p) h.masks (y ∷ []),
                holds_true (all (is_mask p) h.masks) w.masks.1.each,
                eq-eqb (length y) p.n count,
                e,
              )
              tt;
          few = omega (arith, length-append h.masks (y ∷ []), leb-false 8 (length h.masks) f);
        }))))

    message_facts : length op ≡ 64 → Facts 5 (load_message c h op)
    unfolding load_message with_command with_accepted available_with available_with_accepted
    message_facts size = accepted_facts 5 refl refl refl (λ three. absurd (omega arith)) (omega arith) (keep_message w op (kept (record { size = size })))

    first_signs : {i : ℕ} → answer_with m ≡ signing.Signed i → first_passing m ≡ i
    unfolding first_passing
    first_signs e = rw e

    -- the library answers with what is held, which is the material, and signatures are left
    after_answer : (x : Signing) (bytes : List ℕ) → answer_with m ≡ x → bytes ≡ bytes_with m → ((n : ℕ) → answer_with m ≡ signing.Refused n → n ≡ 9)
        → left_of h.key ≡ a.left → ((n : ℕ) → n < 10 → SigningTested a n) → Facts 6 (after_signing c h x bytes)
    unfolding with_command with_accepted available_with available_with_accepted
    after_answer (signing.Signed i) bytes e b nine same tested = record {
      keeps = rw (first_signs e, same) (keep_left (keep_masks w (ap (drop (suc i)) w.masks.0) (record {
        each = all-drop (is_mask p) (suc i) h.masks w.masks.1.each;
        few = omega (arith, length-drop (suc i) h.masks, w.masks.1.few);
      })) (a.left - 1));
      signs = λ six z. record { set = s; answer = rw (first_signs e) e; payload = rw (first_signs e, b) };
      nine = λ six z. absurd (omega arith);
      tested = λ six goes. tested 0 (omega arith);
      judges = λ seven z. absurd (omega arith);
      prints = λ three z. absurd (omega arith);
      refusal = λ z. absurd (z refl);
      accepted_ends = λ z. refl;
      short =
          let size = rw (← b, ← s.own) at (entry_signature_size _ _ _ _ _ _ e) in
          omega (arith, length-append (spaced (decimal i)) (spaced (hex bytes)), length-decimal i, length-hex bytes, (fitting s).size, (fitting s).weight);
    }
    after_answer (signing.Refused n) bytes e b nine same tested =
        rw (nine n e) (record {
          keeps = keep_masks w refl (record { each = tt; few = omega arith });
          signs = λ six z. absurd (omega arith);
          nine = λ six z. record { set = s; answer = e ∙ ap signing.Refused (nine n e) };
          tested = λ six goes. tested 9 (omega arith);
          judges = λ seven z. absurd (omega arith);
          prints = λ three z. absurd (omega arith);
          refusal = λ z. record { leaves = refl; alone = refl; ends = refl };
          accepted_ends = λ z. absurd (omega arith);
          short = omega arith;
        })

    -- three things needed
    three : (x y z : Bool) → T (x && (y && z)) → T x × (T y × T z)
    three true true true t = (tt, (tt, tt))
    three false y z t = elim t [ ]
    three true false z t = elim t [ ]
    three true true false t = elim t [ ]

    -- what a 06 needs is available where it is held
    can_sign_lem : for_signing h ≡ can_sign a
    can_sign_lem = rw (is_available w.exponents, is_available w.key, is_available w.message)

    -- with all that it needs, and a number that is neither 10 nor 17
    some_left : can_sign a ≡ true → eqb a.left 0 ≡ false → (n : ℕ) → n < 10 → SigningTested a n
    some_left can left n low =
        record { lacks = rw (can, ne_eqb n 10 (λ e. omega arith)); spent = λ e. rw (left, ne_eqb n 17 (λ e. omega arith)) }

    -- without it
    nothing_signs : for_signing h ≡ false → SigningTested a 10
    nothing_signs lacks =
        let cannot = sym can_sign_lem ∙ lacks in
        record { lacks = rw cannot; spent = λ can. absurd (true≢false (sym can ∙ cannot)) }

    -- a call of the library with what is held is one with the material
    called : {A : Type 0} (f : ℕ → List ℕ → List ℕ → List ℤ → List ℕ → List ℕ → A) → h.exponents ≡ some m.exponents → h.key ≡ some (key_read m a)
        → h.message ≡ some m.message
        → call_signing c h f ≡ f m.rule (c.byte ∷ m.key) m.exponents (flatten m.masks) m.message (signature_room p)
    called f js ks ts =
        rw (js, ks, ts, w.masks.0)
        (ap (λ (rule : ℕ). f rule (c.byte ∷ m.key) m.exponents (flatten m.masks) m.message (signature_room p)) w.rule.0)

    sign_facts : for_signing h ≡ true → Facts 6 (sign c h)
    unfolding sign
    sign_facts n =
        let can = sym can_sign_lem ∙ n in
        let (j, (k, t)) = three (is_held h.exponents) (is_held h.key) (is_held h.message) (true_holds n) in
        let (js, exponents) = needed w.exponents j in
        let (ks, key) = needed w.key k in
        let (ts, message) = needed w.message t in
        let same = ap left_of ks in
        cond_by (Facts 6) (eqb (left_of h.key) 0)
        (λ none. refused_facts 6 17 refl refl refl (λ six goes. record { lacks = rw can; spent = λ e. sym (rw same at none) }))
        (λ left. after_answer (call_signing c h sign_answer) (call_signing c h sign_written) (sym (called sign_answer js ks ts)) (called sign_written js ks ts)
        (sign_refused s w.rule.1 key exponents (rw w.masks.0 at w.masks.1) message) same (some_left can (rw same at left)))

    -- an accepted 07, whose row prints v
    judged_facts : (v : ℕ) → v ≡ cond (holds_of m a op) 1 0 → Facts 7 (accepted h (judged v))
    unfolding with_command with_accepted available_with available_with_accepted
    judged_facts v e = record {
      keeps = w;
      signs = λ six z. absurd (omega arith);
      nine = λ six z. absurd (omega arith);
      tested = λ six. absurd (omega arith);
      judges = λ seven z. ap judged e;
      prints = λ three z. absurd (omega arith);
      refusal = λ z. absurd (z refl);
      accepted_ends = λ z. refl;
      short = omega (arith, length-decimal v);
    }

    -- the check's answer, by the test of the entries and by the rule
    after_check_lem : (entries holds : Bool) → holds ≡ holds_of m a op → Facts 7 (after_check c h (verdict_after (cond (not entries) 12 0) holds))
    after_check_lem true true e = judged_facts 1 (rw (← e))
    after_check_lem true false e = judged_facts 0 (rw (← e))
    after_check_lem false holds e = refused_facts 7 12 refl refl refl (λ six. absurd (omega arith))

    check_facts : T (for_checking h) → length op ≡ 2 * p.b + 2 * p.n → Facts 7 (check c h op)
    unfolding check
    check_facts n size =
        let (j, (v, t)) = three (is_held h.exponents) (is_held h.evaluations) (is_held h.message) n in
        let (js, exponents) = needed w.exponents j in
        let (vs, evaluations) = needed w.evaluations v in
        let (ts, message) = needed w.message t in
        let answer = check_answer h.rule (public_key c.byte (given h.exponents) (given h.evaluations)) (given h.message) (c.byte ∷ op) in
        let is : answer ≡ verdict_after (cond (not (are_entries p.n (entries_in p op))) 12 0) (holds_of m a op) =
        rw (w.rule.0, ap given js, ap given vs, ap given ts) (check_by_rule s w.rule.1 exponents evaluations message op size) in
        subst (λ (v : Verdict). Facts 7 (after_check c h v)) (sym is) (after_check_lem (are_entries p.n (entries_in p op)) (holds_of m a op) refl)

    evaluations_facts : Facts 8 (load_evaluations c h op)
    unfolding load_evaluations with_command with_accepted available_with available_with_accepted
    evaluations_facts =
        let vs = numbers 3 p.t op in
        unless 8 7 refl refl refl refl (are_evaluations p vs)
        (λ e. accepted_facts 8 refl refl refl (λ three. absurd (omega arith)) (omega arith)
        (keep_evaluations (keep_key w (key_read m a) gone) vs (kept (record { size = length-numbers 3 p.t op; below = e }))))

    grant_facts : T (for_granting h) → Facts 10 (grant c h op)
    unfolding grant with_command with_accepted available_with available_with_accepted
    grant_facts n = accepted_facts 10 refl refl refl (λ three. absurd (omega arith)) (omega arith) (keep_left w (value_of op))

    -- the commands that need a set
    in_set_facts : (b : ℕ) → (command_of b).needs_set ≡ true → length op ≡ (command_of b).size p → Facts b (command_in c h b op)
    unfolding command_in command_of command_table
    in_set_facts =
        by_needing (λ (b : ℕ). length op ≡ (command_of b).size p → Facts b (command_in c h b op))
        (λ size. exponents_facts)
        (λ size. unless 3 10 refl refl refl refl (for_loading h) (λ n. key_facts (true_holds n) size))
        (λ size. mask_facts)
        message_facts
        (λ size. cond_by (Facts 6) (not (for_signing h)) (λ t. refused_facts 6 10 refl refl refl (λ six goes. nothing_signs (not-true (for_signing h) t)))
        (λ t. sign_facts (not-false (for_signing h) t)))
        (λ size. unless 7 10 refl refl refl refl (for_checking h) (λ n. check_facts (true_holds n) size))
        (λ size. unless 8 10 refl refl refl refl (for_loading h) (λ n. evaluations_facts))
        (λ size. unless 10 10 refl refl refl refl (for_granting h) (λ n. grant_facts (true_holds n)))

  -- the same where a set is held
  in_force : (b : ℕ) → (command_of b).needs_set ≡ true → {x : Bool} {o : Option Chosen} → Kept TestedSet m.set x o → lacks_set b o ≡ false
      → length op ≡ (command_of b).size (params_of o) → (o ≡ some m.set) × Facts b (command_in m.set h b op)
  in_force b needs gone lacks size = absurd (true≢false (rw needs at lacks))
  in_force b needs (kept s) lacks size = (refl, in_set_facts s b needs size)

  -- all but 00, with an operand of its size
  pub command_facts : (b : ℕ) → is_known b ≡ true → (b ≡ 0 → ⊥) → lacks_set b h.set ≡ false → length op ≡ (command_of b).size (params_of h.set)
      → Facts b (command h b op)
  command_facts b known nonzero lacks size =
      by_test (command_of b).needs_set
      (λ needs.
      let (set, facts) = in_force b needs w.set lacks size in
      rw (command_in_lem h op m.set set b needs) facts)
      (λ free. by_free (λ (b : ℕ). (b ≡ 0 → ⊥) → Facts b (command h b op)) (λ n. absurd (n refl)) (λ n. rw (command_set h op) set_facts)
      (λ n. rw (command_rule h op) rule_facts) b known free nonzero)
