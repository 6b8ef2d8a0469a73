-- Signing and checking (PASSign paper, sections 3.2 and 3.3; document 01, "Signing and checking") on polynomials, for any parameter set
-- and any way to draw a challenge from a commitment and a message.
-- Assumes nothing.
use Rattle.std.specs.Prelude.{◌≡◌, Bool, true, false, ◌&&◌, cond, List, [], ◌∷◌, ℕ, suc, ◌-◌, ◌*◌, eqb, ℤ, pos, negsuc, ◌-ℤ◌}
use Rattle.std.proofs.Math.Option.{Option, none, some}
use Rattle.algebra.specs.Integer.{residue, within}
use Rattle.parameters.specs.declared.Params.{Params}
use Rattle.polynomial.specs.Polynomial.{z_of}
use Rattle.polynomial.specs.Sparse.{Sparse}
use Rattle.polynomial.specs.Evaluation.{evaluations, evaluation_residues}

-- a way to draw: of a set, a commitment in 0..q-1 and a message a challenge, or none where the pool is spent
abbrev pub Drawer : Type 0
Drawer = Params → List ℕ → List ℕ → Option (List ℤ)

-- a way to draw for each rule of hashing
abbrev pub Drawers : Type 0
Drawers = ℕ → Drawer

-- what theorems ask of it: a way to draw whose challenges are sparse
abbrev pub SparseDrawer : Drawer → Params → Type 0
SparseDrawer draw p = (w m : List ℕ) (c : List ℤ) → draw p w m ≡ some c → Sparse p c

-- a signature: the challenge c and the point z
pub record Signature : Type 0 where
  pub c : List ℤ
  pub z : List ℤ

-- an accepted signing: the number of masks passed over, the commitment of the mask that signed, and the signature
pub record Signed : Type 0 where
  pub passed_over : ℕ
  pub commitment : List ℤ
  pub signature : Signature

-- the signature with challenge c, key f and mask y, where all of z = f ⋆ c + y is in -(k-b)..(k-b)
abbrev pub signature_in_range : Params → List ℤ → List ℤ → List ℤ → Option Signature
signature_in_range p f y c = cond (within (p.k - p.b) (z_of f c y)) (some (record { c = c; z = z_of f c y })) none

-- a mask passes when its pool yields a challenge and z is in range
abbrev pub with_challenge : Params → List ℤ → List ℤ → Option (List ℤ) → Option Signature
with_challenge p f y none = none
with_challenge p f y (some c) = signature_in_range p f y c

-- the signing by a mask that passes, n masks passed over before it; else what the masks after it give
abbrev pub or_else : ℕ → List ℤ → Option Signature → Option Signed → Option Signed
or_else n w (some s) rest = some (record { passed_over = n; commitment = w; signature = s })
or_else n w none rest = rest

-- at each place z minus v × c, reduced to 0..q-1
abbrev pub differences : ℕ → List ℕ → List ℕ → List ℕ → List ℕ
differences q [] vs cs = []
differences q (z ∷ zs) [] cs = []
differences q (z ∷ zs) (v ∷ vs) [] = []
differences q (z ∷ zs) (v ∷ vs) (c ∷ cs) = residue (pos z -ℤ pos (v * c)) q ∷ differences q zs vs cs

-- a commitment from the check's side, in 0..q-1: at each point z's evaluation minus the product of the public and the challenge's evaluation
abbrev pub recovered : Params → Signature → List ℕ → List ℕ → List ℕ
recovered p s exponents vs = differences p.q (evaluation_residues p s.z exponents) vs (evaluation_residues p s.c exponents)

-- integers and polynomials are equal
abbrev pub equal_ℤ : ℤ → ℤ → Bool
equal_ℤ (pos a) (pos b) = eqb a b
equal_ℤ (pos a) (negsuc b) = false
equal_ℤ (negsuc a) (pos b) = false
equal_ℤ (negsuc a) (negsuc b) = eqb a b

abbrev pub equal : List ℤ → List ℤ → Bool
equal [] [] = true
equal [] (b ∷ d) = false
equal (a ∷ c) [] = false
equal (a ∷ c) (b ∷ d) = equal_ℤ a b && equal c d

-- the drawn challenge exists and equals the given one
abbrev pub is_drawn : Option (List ℤ) → List ℤ → Bool
is_drawn none c = false
is_drawn (some d) c = equal d c

module _ (draw : Drawer) (p : Params) (exponents message : List ℕ) where
  -- what the mask y gives with the key f: a signature if it passes
  unfoldable pub attempt : List ℤ → List ℤ → Option Signature
  attempt f y = with_challenge p f y (draw p (evaluation_residues p y exponents) message)

  -- the masks in order, n passed over before them; the first that passes signs
  abbrev pub signing : ℕ → List ℤ → List (List ℤ) → Option Signed
  signing n f [] = none
  signing n f (y ∷ ys) = or_else n (evaluations p y exponents) (attempt f y) (signing (suc n) f ys)

  -- the check of a signature against public evaluations in 0..q-1: z in range, and the challenge of the recovered commitment is the given one
  unfoldable pub verdict : List ℕ → Signature → Bool
  verdict vs s = within (p.k - p.b) s.z && is_drawn (draw p (recovered p s exponents vs) message) s.c
