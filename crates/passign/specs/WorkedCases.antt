-- The worked cases of document 01, in set 0 but for a size in set 4, evaluations at both ends of the signed form, where the test of a range ends, what a
-- challenge has, and what each rule hashes, in set 1: rows of one table, and the test of a row by the definitions that the entries' contracts cite.
-- Assumes nothing.
use Rattle.std.specs.Prelude.{Bool, true, false, ◌&&◌, not, cond, List, [], ◌∷◌, ◌++◌, map, ℕ, zero, suc, ◌-◌, eqb, ℤ, pos, negsuc, length, replicate}
use Rattle.algebra.specs.All.{are_below}
use Rattle.algebra.specs.Integer.{within}
use Rattle.parameters.specs.Sets.{set_of}
use Rattle.polynomial.specs.Polynomial.{star, z_of, one_norm}
use Rattle.polynomial.specs.Sparse.{zeros, nonzeros}
use Rattle.polynomial.specs.FirstOutside.{first_outside}
use Rattle.polynomial.specs.Evaluation.{evaluations, evaluation_residues}
use Rattle.transform.specs.UpFrom.{up_from}
use Rattle.transform.specs.AllExponents.{all_exponents}
use Rattle.transform.specs.Generator.{generator_of}
use Rattle.transform.specs.Convolution.{convolution}
use Rattle.transform.specs.Reordering.{reordered_coefficients, reordered_powers, reordered_sum}
use Rattle.challenge.specs.Pool.{low_byte_rule, three_byte_rule, commitment_bytes}
use Rattle.challenge.specs.Draw.{draw, kept, value_count}
use Rattle.encoding.specs.Challenge.{are_entries}
use Rattle.encoding.specs.Encoding.{signature_size}
use Rattle.scheme.specs.Scheme.{equal, is_drawn}
use Rattle.signing.specs.Signer.{signature_of}
use Rattle.values.specs.Draw.{draw_refusal}

-- a row: what is given, and what document 01 says comes of it
pub data Case : Type 0 where
  -- a pool yields this challenge
  draws : List ℕ → List ℤ → Case
  -- a pool keeps these indices only and is spent: a draw from it is refused with 11
  spent : List ℕ → List ℕ → Case
  -- a polynomial has these evaluations at points 1 and 2, in signed form and in 0..q-1
  evaluates : List ℤ → List ℤ → List ℕ → Case
  -- and these at all exponents, 1 to 4
  evaluates_all : List ℤ → List ℤ → Case
  -- two lists have this cyclic convolution modulo q
  convolves : List ℕ → List ℕ → List ℕ → Case
  -- in the order of the powers of the generator a polynomial's coefficients and the powers of g are these, and give these sums
  reorders : List ℤ → List ℤ → List ℤ → List ℤ → Case
  -- key ⋆ challenge is this product
  multiplies : List ℤ → List ℤ → List ℤ → Case
  -- key, challenge and mask give this point, in range or not
  reaches : List ℤ → List ℤ → List ℤ → List ℤ → Bool → Case
  -- the test of this point ends at this index
  leaves : List ℤ → ℕ → Case
  -- a polynomial has so many coefficients that are not 0, so many that are 0, and this sum of absolute values
  counts : List ℤ → ℕ → ℕ → ℕ → Case
  -- challenge entries are accepted or not
  accepts : List ℕ → Bool → Case
  -- challenge and point are encoded as these bytes
  encodes : List ℤ → List ℤ → List ℕ → Case
  -- evaluations of set 1 have these commitment bytes under rule 1, and these under rule 2
  hashes : List ℕ → List ℕ → List ℕ → Case
  -- two commitments of set 1 have equal bytes under rule 1 and other bytes under rule 2
  collides : List ℕ → List ℕ → Case
  -- a signature of this set has so many bytes
  measures : ℕ → ℕ → Case

-- the bytes, and zeros to 64 of them
abbrev pub padded : List ℕ → List ℕ
padded xs = xs ++ replicate (64 - length xs) 0

abbrev pub minus : ℕ → ℤ
minus zero = pos 0
minus (suc n) = negsuc n

-- five coefficients
abbrev pub poly : ℤ → ℤ → ℤ → ℤ → ℤ → List ℤ
poly a b c d e = a ∷ b ∷ c ∷ d ∷ e ∷ []

abbrev pub constant : ℤ → List ℤ
constant a = poly a (pos 0) (pos 0) (pos 0) (pos 0)

-- a key and a challenge
abbrev pub key : List ℤ
key = poly (pos 1) (minus 1) (pos 0) (pos 1) (pos 0)

abbrev pub challenge : List ℤ
challenge = poly (pos 0) (pos 0) (pos 1) (minus 1) (pos 0)

-- two keys with equal evaluations, and for each the mask that gives the same commitment and, with one challenge, the same point
abbrev pub one_key : List ℤ
one_key = poly (pos 0) (minus 1) (pos 0) (minus 1) (pos 0)

abbrev pub other_key : List ℤ
other_key = poly (pos 1) (pos 0) (pos 1) (pos 0) (pos 1)

abbrev pub one_mask : List ℤ
one_mask = poly (pos 5) (pos 0) (minus 4) (pos 0) (minus 2)

abbrev pub other_mask : List ℤ
other_mask = poly (pos 3) (minus 2) (minus 6) (minus 2) (minus 4)

abbrev pub shared_challenge : List ℤ
shared_challenge = poly (pos 0) (pos 0) (pos 1) (pos 1) (pos 0)

abbrev pub shared_point : List ℤ
shared_point = poly (pos 4) (minus 1) (minus 4) (minus 1) (minus 3)

-- 200 evaluations of set 1, with e among them
abbrev pub commitment_with : ℕ → List ℕ
commitment_with e = replicate 99 0 ++ (e ∷ replicate 100 775936)

unfoldable pub cases : List Case
cases =
    draws (padded (0x02 ∷ replicate 7 0 ++ (0x00 ∷ 0x07 ∷ 0x00 ∷ 0x0C ∷ 0xFF ∷ 0xFF ∷ 0x00 ∷ 0x03 ∷ []))) challenge
    -- sign i goes to the i-th index drawn, here 4 and then 1, and not to the i-th smallest
    ∷ draws (padded (0x01 ∷ replicate 7 0 ++ (0x00 ∷ 0x04 ∷ 0x00 ∷ 0x01 ∷ []))) (poly (pos 0) (pos 1) (pos 0) (pos 0) (minus 1))
    ∷ spent (padded []) (0 ∷ [])
    ∷ evaluates key (pos 7 ∷ minus 1 ∷ []) (7 ∷ 30 ∷ [])
    ∷ evaluates_all key (pos 7 ∷ minus 1 ∷ pos 9 ∷ minus 11 ∷ [])
    ∷ convolves (1 ∷ 2 ∷ 3 ∷ 4 ∷ []) (5 ∷ 6 ∷ 7 ∷ 8 ∷ []) (4 ∷ 6 ∷ 4 ∷ 29 ∷ [])
    -- the evaluations above, for exponents 1, 2, 4 and 3
    ∷ reorders key (minus 1 ∷ pos 1 ∷ pos 0 ∷ pos 0 ∷ []) (pos 2 ∷ pos 4 ∷ pos 16 ∷ pos 8 ∷ []) (pos 7 ∷ minus 1 ∷ minus 11 ∷ pos 9 ∷ [])
    ∷ multiplies key challenge (poly (pos 1) (minus 1) (pos 1) (minus 2) (pos 1))
    ∷ reaches key challenge (poly (pos 3) (pos 4) (minus 5) (pos 2) (pos 0)) (poly (pos 4) (pos 3) (minus 4) (pos 0) (pos 1)) true
    ∷ reaches key challenge (poly (pos 3) (pos 4) (minus 6) (pos 2) (pos 0)) (poly (pos 4) (pos 3) (minus 5) (pos 0) (pos 1)) false
    -- the two points above; then outside at the first, at the last and at two coefficients
    ∷ leaves (poly (pos 4) (pos 3) (minus 4) (pos 0) (pos 1)) 5
    ∷ leaves (poly (pos 4) (pos 3) (minus 5) (pos 0) (pos 1)) 2
    ∷ leaves (poly (minus 5) (pos 4) (pos 0) (pos 0) (pos 0)) 0
    ∷ leaves (poly (pos 4) (minus 4) (pos 4) (minus 4) (pos 5)) 4
    ∷ leaves (poly (pos 0) (pos 9) (minus 4) (minus 5) (pos 0)) 1
    ∷ evaluates one_key (minus 10 ∷ minus 6 ∷ []) (21 ∷ 25 ∷ [])
    ∷ evaluates other_key (minus 10 ∷ minus 6 ∷ []) (21 ∷ 25 ∷ [])
    ∷ reaches one_key shared_challenge one_mask shared_point true
    ∷ reaches other_key shared_challenge other_mask shared_point true
    ∷ evaluates one_mask (minus 12 ∷ minus 13 ∷ []) (19 ∷ 18 ∷ [])
    ∷ evaluates other_mask (minus 12 ∷ minus 13 ∷ []) (19 ∷ 18 ∷ [])
    -- both ends, 15 and -15, each from a sum inside and from one just beyond the other end
    ∷ evaluates (constant (pos 15)) (pos 15 ∷ pos 15 ∷ []) (15 ∷ 15 ∷ [])
    ∷ evaluates (constant (minus 16)) (pos 15 ∷ pos 15 ∷ []) (15 ∷ 15 ∷ [])
    ∷ evaluates (constant (minus 15)) (minus 15 ∷ minus 15 ∷ []) (16 ∷ 16 ∷ [])
    ∷ evaluates (constant (pos 16)) (minus 15 ∷ minus 15 ∷ []) (16 ∷ 16 ∷ [])
    -- a challenge has two that are not 0; of other polynomials the sum is not the count
    ∷ counts challenge 2 3 2
    ∷ counts (poly (pos 3) (minus 2) (pos 0) (pos 0) (pos 1)) 3 2 6
    -- the indices 2 and 3; one index twice, with one sign and with both; decreasing; N
    ∷ accepts (0x0002 ∷ 0x8003 ∷ []) true
    ∷ accepts (0x0002 ∷ 0x0002 ∷ []) false
    ∷ accepts (0x0002 ∷ 0x8002 ∷ []) false
    ∷ accepts (0x8003 ∷ 0x0002 ∷ []) false
    ∷ accepts (0x0002 ∷ 0x0005 ∷ []) false
    ∷ encodes challenge (poly (pos 4) (pos 3) (minus 4) (pos 0) (pos 1))
    (0x00 ∷ 0x00 ∷ 0x02 ∷ 0x80 ∷ 0x03 ∷ 0x00 ∷ 0x04 ∷ 0x00 ∷ 0x03 ∷ 0xFF ∷ 0xFC ∷ 0x00 ∷ 0x00 ∷ 0x00 ∷ 0x01 ∷ [])
    -- 775936 is hex 0BD700, and 258 is hex 000102
    ∷ hashes (775936 ∷ 258 ∷ []) (0x00 ∷ 0x02 ∷ []) (0x00 ∷ 0xD7 ∷ 0x0B ∷ 0x02 ∷ 0x01 ∷ 0x00 ∷ [])
    -- they differ by 256 in one evaluation
    ∷ collides (commitment_with 1000) (commitment_with 1256)
    ∷ measures 0 15
    ∷ measures 4 2379
    ∷ []

abbrev pub same_numbers : List ℕ → List ℕ → Bool
same_numbers xs ys = equal (map pos xs) (map pos ys)

abbrev pub same_bool : Bool → Bool → Bool
same_bool a b = cond a b (not b)

-- t numbers in 0..q-1 of set 1
abbrev pub is_commitment : List ℕ → Bool
is_commitment w = eqb (length w) (set_of 1).t && are_below (set_of 1).q w

-- the test of a row
unfoldable pub holds : Case → Bool
holds (draws xs c) = is_drawn (draw (set_of 0) xs) c
holds (spent xs js) = same_numbers (kept (set_of 0) xs (value_count xs)) js && eqb (draw_refusal 0 xs (replicate (set_of 0).n (pos 0))) 11
holds (evaluates f es vs) = equal (evaluations (set_of 0) f (1 ∷ 2 ∷ [])) es && same_numbers (evaluation_residues (set_of 0) f (1 ∷ 2 ∷ [])) vs
holds (evaluates_all f es) = equal (evaluations (set_of 0) f (all_exponents (set_of 0))) es
holds (convolves u w r) = same_numbers (convolution (set_of 0).q u w) r
holds (reorders f us ws sums) =
    equal (map (reordered_coefficients (generator_of 0) (set_of 0) f) (up_from 0 4)) us
    && (equal (map (reordered_powers (generator_of 0) (set_of 0)) (up_from 0 4)) ws && equal (map (reordered_sum (generator_of 0) (set_of 0) f) (up_from 0 4)) sums)
holds (multiplies f c r) = equal (star f c) r
holds (reaches f c y z inside) = equal (z_of f c y) z && same_bool (within ((set_of 0).k - (set_of 0).b) z) inside
holds (leaves z i) = eqb (first_outside ((set_of 0).k - (set_of 0).b) z) i
holds (counts c some none norm) = eqb (nonzeros c) some && (eqb (zeros c) none && eqb (one_norm c) norm)
holds (accepts es ok) = same_bool (are_entries (set_of 0).n es) ok
holds (encodes c z xs) = same_numbers (signature_of 0 (record { c = c; z = z })) xs
holds (hashes w low three) =
    are_below (set_of 1).q w && (same_numbers (commitment_bytes low_byte_rule w) low && same_numbers (commitment_bytes three_byte_rule w) three)
holds (collides v w) =
    is_commitment v && (is_commitment w && (same_numbers (commitment_bytes low_byte_rule v) (commitment_bytes low_byte_rule w)
    && not (same_numbers (commitment_bytes three_byte_rule v) (commitment_bytes three_byte_rule w))))
holds (measures s size) = eqb (signature_size (set_of s)) size
