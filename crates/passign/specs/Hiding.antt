-- Demand 3 (document 01, "Hiding, word by word"): another key, what it is for a mask to do what a signing did, and what it is for a list of signings to be
-- hidden. It is said once, of any library of the scheme: of the entries `sign` and `check`, and of the same definitions with any numbering of parameter sets
-- and any way to draw for each rule of hashing.
-- Assumes nothing.
use Rattle.std.specs.Prelude.{◌≡◌, true, ◌↔◌, ℕ, T, ℤ, length}
use mathlib.Core.List.{List, [], ◌∷◌, zip_with, Forall₂}
use Rattle.std.proofs.Math.Option.{some}
use Rattle.algebra.specs.Integer.{within}
use Rattle.parameters.specs.declared.Params.{Params}
use Rattle.parameters.specs.Sets.{set_of}
use Rattle.parameters.specs.Sound.{Sound, Fitting}
use Rattle.polynomial.specs.Polynomial.{sub, star}
use Rattle.polynomial.specs.Evaluation.{evaluations, evaluation_residues}
use Rattle.challenge.specs.Draw.{draw_challenge}
use Rattle.encoding.specs.Encoding.{secret_key_size, is_key, key_of}
use Rattle.scheme.specs.Scheme.{Drawer, Drawers, SparseDrawer, Signature}
use Rattle.signing.specs.Signer.{mask_at}
use Rattle.refusal.specs.Signing.{Signing}
use Rattle.refusal.specs.Signing as signing
use Rattle.refusal.specs.Verdict.{Verdict}
use Rattle.refusal.specs.Verdict as verdict
use Rattle.refusal.specs.Answer.{set_byte}
use Rattle.signing.specs.Sign.{sign_answer_in, sign_written_in, sign_answer, sign_written}
use Rattle.checking.specs.Check.{signature_read, check_answer_in, check_answer}
use Rattle.values.specs.Keys.{public_key_in}

-- what the theorems on bytes ask of a set and a way to draw: besides soundness that all has room in the encodings, and that a drawn
-- challenge is sparse
pub record Encodable (draw : Drawer) (p : Params) : Type 0 where
  pub sound : Sound p
  pub fitting : Fitting p
  pub draws : SparseDrawer draw p

-- ---- a library of the scheme

-- a call of its signing: the rule of hashing, encoded key, points, masks, message, and the buffer lent
pub record Call : Type 0 where
  pub rule : ℕ
  pub key : List ℕ
  pub exponents : List ℕ
  pub masks : List ℤ
  pub message : List ℕ
  pub out : List ℕ

-- the call with another key, and the mask y offered alone: both keys sign under one rule
abbrev pub offered_alone : Call → List ℕ → List ℤ → Call
offered_alone call other y =
    record { rule = call.rule; key = other; exponents = call.exponents; masks = y; message = call.message; out = call.out }

-- the parameter set of each set byte, the way to draw of each rule, what signing answers and what the buffer lent holds after it, and what the check
-- answers under a rule to a public key, a message and a signature
pub record Library : Type 0 where
  pub set : ℕ → Params
  pub draw : Drawers
  pub signs : Call → Signing
  pub writes : Call → List ℕ
  pub checks : ℕ → List ℕ → List ℕ → List ℕ → Verdict

-- signing in one parameter set
abbrev pub signs_in : Drawers → Params → Call → Signing
signs_in draw p call = sign_answer_in draw call.rule p call.key call.exponents call.masks call.message call.out

abbrev pub writes_in : Drawers → Params → Call → List ℕ
writes_in draw p call = sign_written_in draw call.rule p call.key call.exponents call.masks call.message call.out

-- any numbering of sets and any way to draw for each rule
abbrev pub any_library : (ℕ → Params) → Drawers → Library
any_library set draw =
    record {
      set = set;
      draw = draw;
      signs = λ (call : Call). signs_in draw (set (set_byte call.key)) call;
      writes = λ (call : Call). writes_in draw (set (set_byte call.key)) call;
      checks = λ (rule : ℕ) (key message signature : List ℕ). check_answer_in draw rule (set (set_byte key)) key message signature;
    }

-- our library: the entries `sign` and `check`
abbrev pub our_library : Library
our_library =
    record {
      set = set_of;
      draw = draw_challenge;
      signs = λ (call : Call). sign_answer call.rule call.key call.exponents call.masks call.message call.out;
      writes = λ (call : Call). sign_written call.rule call.key call.exponents call.masks call.message call.out;
      checks = check_answer;
    }

-- ---- one signing

-- a signing that was made: its call, the number of the mask that signed, and the bytes of the signature
pub record SigningRecord : Type 0 where
  pub call : Call
  pub mask : ℕ
  pub bytes : List ℕ

module _ (l : Library) (m : SigningRecord) where
  -- the set of its key's first byte
  abbrev pub params_of : Params
  params_of = l.set (set_byte m.call.key)

  -- the way to draw of its rule
  abbrev pub drawer_of : Drawer
  drawer_of = l.draw m.call.rule

  -- the library accepts it: it answers with the number of the mask and not with a refusal, and it writes the bytes
  pub record Accepted : Type 0 where
    pub answer : l.signs m.call ≡ signing.Signed m.mask
    pub bytes : l.writes m.call ≡ m.bytes

  -- its commitment: that of the mask that signed
  abbrev pub commitment_of : List ℤ
  commitment_of = evaluations params_of (mask_at params_of m.call.masks m.mask) m.call.exponents

  -- the challenge and the point z that its bytes mean
  abbrev pub signature_in : Signature
  signature_in = signature_read params_of m.bytes

  -- the public evaluations of an encoded key at its points
  abbrev pub public_evaluations : List ℕ → List ℤ
  public_evaluations key = evaluations params_of (key_of key) m.call.exponents

  -- another ternary key of the same set, in its encoding: its public evaluations agree with those of the key that signed at each of the points
  pub record OtherKey (other : List ℕ) : Type 0 where
    pub size : length other ≡ secret_key_size params_of
    pub set : set_byte other ≡ set_byte m.call.key
    pub ternary : is_key other ≡ true
    pub same : public_evaluations other ≡ public_evaluations m.call.key

  -- the mask y within k, offered alone with the other key, gives the same commitment, the same challenge and the same signature bytes
  pub record Same (other : List ℕ) (y : List ℤ) : Type 0 where
    pub size : length y ≡ params_of.n
    pub small : T (within params_of.k y)
    pub commitment : evaluations params_of y m.call.exponents ≡ commitment_of
    pub challenge : drawer_of params_of (evaluation_residues params_of y m.call.exponents) m.call.message ≡ some signature_in.c
    pub answer : l.signs (offered_alone m.call other y) ≡ signing.Signed 0
    pub bytes : l.writes (offered_alone m.call other y) ≡ m.bytes

  -- the check under the signing's rule, given the signature, the shared public evaluations in the other key's public key, and the same points and message,
  -- says yes
  pub record CheckedYes (other : List ℕ) : Type 0 where
    pub answer : l.checks m.call.rule (public_key_in params_of other m.call.exponents) m.call.message m.bytes ≡ verdict.Yes

  -- the mask that does it: the signature's z minus the product ⋆ of the other key and the signature's challenge
  abbrev pub mask_for : List ℕ → List ℤ
  mask_for other = sub signature_in.z (star (key_of other) signature_in.c)

-- exactly one: it does, and whatever does is it
pub record ExactlyOne {A : Type 0} (P : A → Type 0) : Type 0 where
  pub it : A
  pub does : P it
  pub only : (a : A) → P a → a ≡ it

-- ---- lists of signings

-- P holds at each place
abbrev pub Every : {A : Type 0} → (A → Type 0) → List A → Type 0
Every P [] = Unit {0}
Every P (a ∷ l) = P a × Every P l

-- three lists are equally long and R holds at each place
abbrev pub Each₃ : {A B C : Type 0} → (A → B → C → Type 0) → List A → List B → List C → Type 0
Each₃ R [] [] [] = Unit {0}
Each₃ R [] [] (c ∷ cs) = ⊥
Each₃ R [] (b ∷ bs) cs = ⊥
Each₃ R (a ∷ l) [] cs = ⊥
Each₃ R (a ∷ l) (b ∷ bs) [] = ⊥
Each₃ R (a ∷ l) (b ∷ bs) (c ∷ cs) = R a b c × Each₃ R l bs cs

-- a list of signings, and other keys in their place, one for each
pub record HiddenAmong (l : Library) (ms : List SigningRecord) (others : List (List ℕ)) : Type 0 where
  -- exactly one list of masks, one for each, does at every place what the signing there did
  pub one : ExactlyOne (λ (ys : List (List ℤ)). Each₃ (Same l) ms others ys)
  -- it is z minus the product ⋆ of the other key and the challenge at every place, and no other
  pub exactly : (ys : List (List ℤ)) → Each₃ (Same l) ms others ys ↔ (ys ≡ zip_with (mask_for l) ms others)
  -- the check says yes at every place
  pub yes : Forall₂ (CheckedYes l) ms others

-- demand 3 of a list of signings, for every list of other keys
abbrev pub Hidden : Library → List SigningRecord → Type 0
Hidden l ms = (others : List (List ℕ)) → Forall₂ (OtherKey l) ms others → HiddenAmong l ms others
