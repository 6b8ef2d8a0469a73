-- Text of numbers and bytes: by the tests that the code makes, how long it is, and that it has no space and no line feed inside a field.
-- Assumes nothing.
use mathlib.Core.Path.{◌≡◌, refl}
use mathlib.Core.Bool.{Bool, true, false}
use mathlib.Core.List.{List, [], ◌∷◌, ◌++◌, append_assoc, append-nil}
use Prim.Native.Nat.{ℕ, zero, suc, ◌+◌, ◌-◌, ◌*◌, ◌^◌, ◌/◌, ◌%◌, ◌≤◌, ◌<◌}
use native.Mathlib.Nat.{div-lt_iff_lt-mul, pow-suc, zero-lt-suc}
use native.Mathlib.Omega.{arith}
use lib.Dec.{T, ltb, leb, ltb→lt, lt→ltb, leb→le}
use lib.IntN.{ℤ, pos, negsuc, nat_abs}
use lib.ListN.{length, length-append}
use lib.Signed.{lt_z}
use borrow.Author.Tests.{lt-ltb, le-ltb, ltb-true}
use Rattle.algebra.specs.All.{all}
use Rattle.algebra.specs.Integer.{within}
use Rattle.algebra.proofs.All.{all-append, all_weaker}
use Rattle.algebra.proofs.Test.{and_left, and_right, and_intro, cond_by, by_test}
use Rattle.text.specs.Text.{minus_sign, digits, decimal, signed_decimal, hex_digit, hex, spaced, spaced_integers}

-- ---- decimal digits, by the tests that the code makes

pub digits_last : (more n : ℕ) → more ≡ 0 → digits more n ≡ (48 + n % 10) ∷ []
unfolding digits
digits_last more n e = rw e

pub digits_short : (more n : ℕ) → n < 10 → digits more n ≡ (48 + n % 10) ∷ []
unfolding digits
digits_short zero n h = refl
digits_short (suc more) n h = rw (lt-ltb n 10 h)

pub digits_long : (more n : ℕ) → 0 < more → 10 ≤ n → digits more n ≡ digits (more - 1) (n / 10) ++ ((48 + n % 10) ∷ [])
unfolding digits
digits_long zero n p h = absurd (omega arith)
digits_long (suc more) n p h = let e : suc more - 1 ≡ more = omega arith in rw (le-ltb n 10 h, e)

-- a number of few digits, whatever the budget
pub digits_enough : (m more n : ℕ) → m ≤ more → n < 10 ^ suc m → digits more n ≡ digits m n
unfolding digits
digits_enough zero zero n l h = refl
digits_enough zero (suc more) n l h = rw (lt-ltb n 10 h)
digits_enough (suc m) zero n l h = absurd (omega arith)
digits_enough (suc m) (suc more) n l h =
    let fewer : n / 10 < 10 ^ suc m = (div-lt_iff_lt-mul (zero-lt-suc 9)).1 (rw (pow-suc 10 (suc m)) at h) in
    by_test (ltb n 10) (λ t. rw t) (λ t. rw (t, digits_enough m more (n / 10) (omega arith) fewer))

-- an integer of at most ten digits
pub integer_natural : (n : ℕ) → n < 10 ^ 10 → signed_decimal (pos n) ≡ digits 9 n
unfolding signed_decimal
integer_natural n h = digits_enough 9 19 n (omega arith) h

pub integer_negative : (n : ℕ) → suc n < 10 ^ 10 → signed_decimal (negsuc n) ≡ minus_sign ∷ digits 9 (suc n)
unfolding signed_decimal
integer_negative n h = rw (digits_enough 9 19 (suc n) (omega arith) h)

-- the same by the sign that the code tests
pub text_natural : (e : ℤ) → nat_abs e < 10 ^ 10 → lt_z e (pos 0) ≡ false → signed_decimal e ≡ digits 9 (nat_abs e)
text_natural (pos n) h t = integer_natural n h
text_natural (negsuc n) h t = cc

pub text_negative : (e : ℤ) → nat_abs e < 10 ^ 10 → lt_z e (pos 0) ≡ true → signed_decimal e ≡ minus_sign ∷ digits 9 (nat_abs e)
text_negative (pos n) h t = absurd (omega (arith, ltb-true))
text_negative (negsuc n) h t = integer_negative n h

-- ---- the texts of lists

pub hex-append : (xs ys : List ℕ) → hex (xs ++ ys) ≡ hex xs ++ hex ys
unfolding hex
hex-append [] ys = refl
hex-append (x ∷ xs) ys = rw (hex-append xs ys)

pub integers_append : (xs ys : List ℤ) → spaced_integers (xs ++ ys) ≡ spaced_integers xs ++ spaced_integers ys
unfolding spaced_integers
integers_append [] ys = refl
integers_append (x ∷ xs) ys = rw (integers_append xs ys, append_assoc)

pub one_integer : (e : ℤ) → spaced_integers (e ∷ []) ≡ spaced (signed_decimal e)
unfolding spaced_integers
one_integer e = rw append-nil

-- ---- lengths

length-digits : (more n : ℕ) → length (digits more n) ≤ suc more
unfolding digits
length-digits zero n = omega arith
length-digits (suc more) n =
    cond_by (λ (l : List ℕ). length l ≤ suc (suc more)) (ltb n 10) (λ t. omega arith)
    (λ t. omega (arith, length-append (digits more (n / 10)) ((48 + n % 10) ∷ []), length-digits more (n / 10)))

pub length-decimal : (n : ℕ) → length (decimal n) ≤ 20
length-decimal n = length-digits 19 n

pub length-hex : (xs : List ℕ) → length (hex xs) ≡ 2 * length xs
unfolding hex
length-hex [] = refl
length-hex (x ∷ xs) = omega (arith, length-hex xs)

-- integers of at most ten digits
length_integer : (q : ℕ) (e : ℤ) → q < 10 ^ 10 → nat_abs e ≤ q → length (signed_decimal e) ≤ 11
length_integer q (pos n) h l = rw (integer_natural n (omega arith)) (omega (arith, length-digits 9 n))
length_integer q (negsuc n) h l = rw (integer_negative n (omega arith)) (omega (arith, length-digits 9 (suc n)))

pub length-spaced_integers : (q : ℕ) (es : List ℤ) → q < 10 ^ 10 → T (within q es) → length (spaced_integers es) ≤ 12 * length es
unfolding spaced_integers
length-spaced_integers q [] h t = omega arith
length-spaced_integers q (e ∷ es) h t =
    let field = length_integer q e h (leb→le (nat_abs e) q (and_left (leb (nat_abs e) q) (within q es) t)) in
    let rest = length-spaced_integers q es h (and_right (leb (nat_abs e) q) (within q es) t) in
    omega (arith, length-append (spaced (signed_decimal e)) (spaced_integers es))

-- ---- no space in a field

-- x is no space and no line feed
abbrev pub is_visible : ℕ → Bool
is_visible x = ltb 32 x

visible_append : (l m : List ℕ) → T (all is_visible l) → T (all is_visible m) → T (all is_visible (l ++ m))
visible_append l m s t = rw (all-append is_visible l m) (and_intro (all is_visible l) (all is_visible m) s t)

visible_digits : (more n : ℕ) → T (all is_visible (digits more n))
unfolding digits
visible_digits zero n = and_intro (is_visible (48 + n % 10)) true (lt→ltb 32 (48 + n % 10) (omega arith)) tt
visible_digits (suc more) n =
    let last = and_intro (is_visible (48 + n % 10)) true (lt→ltb 32 (48 + n % 10) (omega arith)) tt in
    cond_by (λ (l : List ℕ). T (all is_visible l)) (ltb n 10) (λ t. last)
    (λ t. visible_append (digits more (n / 10)) ((48 + n % 10) ∷ []) (visible_digits more (n / 10)) last)

pub visible_decimal : (n : ℕ) → T (all is_visible (decimal n))
visible_decimal n = visible_digits 19 n

visible_integer : (e : ℤ) → T (all is_visible (signed_decimal e))
unfolding signed_decimal
visible_integer (pos n) = visible_decimal n
visible_integer (negsuc n) = visible_append (minus_sign ∷ []) (decimal (suc n)) tt (visible_decimal (suc n))

pub visible_digit : (n : ℕ) → 32 < hex_digit n
visible_digit n = cond_by (λ (x : ℕ). 32 < x) (ltb n 10) (λ t. omega arith) (λ t. omega arith)

pub visible_hex : (xs : List ℕ) → T (all is_visible (hex xs))
unfolding hex
visible_hex [] = tt
visible_hex (x ∷ xs) =
    let high = hex_digit (x / 16) in
    let low = hex_digit (x % 16) in
    visible_append (high ∷ low ∷ []) (hex xs)
    (and_intro (is_visible high) _ (lt→ltb 32 high (visible_digit (x / 16))) (and_intro (is_visible low) true (lt→ltb 32 low (visible_digit (x % 16))) tt))
    (visible_hex xs)

-- ---- no line feed in a row

-- x is no line feed
abbrev pub is_inside : ℕ → Bool
is_inside x = ltb 10 x

pub inside : (l : List ℕ) → T (all is_visible l) → T (all is_inside l)
inside l t = all_weaker is_visible is_inside (λ x v. lt→ltb 10 x (omega (arith, ltb→lt 32 x v))) l t

pub inside_append : (l m : List ℕ) → T (all is_inside l) → T (all is_inside m) → T (all is_inside (l ++ m))
inside_append l m s t = rw (all-append is_inside l m) (and_intro (all is_inside l) (all is_inside m) s t)

pub inside_integers : (es : List ℤ) → T (all is_inside (spaced_integers es))
unfolding spaced_integers
inside_integers [] = tt
inside_integers (e ∷ es) = inside_append (spaced (signed_decimal e)) (spaced_integers es) (inside (signed_decimal e) (visible_integer e)) (inside_integers es)
