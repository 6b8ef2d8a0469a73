-- FIPS 180-4's words for the constants (4.2.3, 5.3.5): the first 64 bits of the fractional parts of roots of the first primes, as a test that computes.
-- Assumes nothing.
use Rattle.std.specs.Prelude.{ℕ, zero, suc, ◌+◌, ◌*◌, ◌%◌, ◌^◌, Bool, true, false, cond, ◌&&◌, List, [], ◌∷◌, ◌++◌, ◌==◌, nat_le, nat_lt}

-- no prime of the list divides n
unfoldable pub undivided : ℕ → List ℕ → Bool
undivided n [] = true
undivided n (p ∷ ps) = cond (n % p == 0) false (undivided n ps)

-- the primes below n, and n if none of them divides it
unfoldable pub with_next : ℕ → List ℕ → List ℕ
with_next n ps = cond (undivided n ps) (ps ++ (n ∷ [])) ps

-- the primes among the n numbers from 2 on
unfoldable pub primes_from_two : ℕ → List ℕ
primes_from_two zero = []
primes_from_two (suc n) = with_next (2 + n) (primes_from_two n)

-- the first eighty primes, of which the last is 409
unfoldable pub primes : List ℕ
primes = primes_from_two 408

-- k is the fraction of the n-th root of p, the first 64 bits of it, the root's whole part being r
unfoldable pub is_root : ℕ → ℕ → ℕ → ℕ → Bool
is_root n p r k = nat_lt k (2 ^ 64) && (nat_le ((r * 2 ^ 64 + k) ^ n) (p * 2 ^ (64 * n)) && nat_lt (p * 2 ^ (64 * n)) ((r * 2 ^ 64 + k + 1) ^ n))

-- one of the whole parts fits
unfoldable pub some_root : ℕ → ℕ → ℕ → List ℕ → Bool
some_root n p k [] = false
some_root n p k (r ∷ rs) = cond (is_root n p r k) true (some_root n p k rs)

-- each number of the second list is the fraction of the n-th root of the number in its place in the first, and there are as many
unfoldable pub roots : ℕ → List ℕ → List ℕ → Bool
roots n [] [] = true
roots n [] (k ∷ ks) = false
roots n (p ∷ ps) [] = false
roots n (p ∷ ps) (k ∷ ks) = some_root n p k (1 ∷ 2 ∷ 3 ∷ 4 ∷ 5 ∷ 6 ∷ 7 ∷ []) && roots n ps ks
