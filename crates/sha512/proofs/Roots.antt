-- The constants are what FIPS 180-4 says: the first 64 bits of the fractional parts of the cube roots of the first eighty primes (4.2.3),
-- and of the square roots of the first eight (5.3.5). Each is one test over the whole table, which antt computes.
-- Assumes nothing.
use Rattle.std.proofs.Common.{◌≡◌, true, take, refl}
use Rattle.sha512.specs.Constants.{round_constants, initial_hash_value}
use Rattle.sha512.specs.Roots.{undivided, with_next, primes_from_two, primes, is_root, some_root, roots}

round_constants_lem : roots 3 primes round_constants ≡ true
unfolding roots some_root is_root primes primes_from_two with_next undivided round_constants
round_constants_lem = refl

initial_hash_value_lem : roots 2 (take 8 primes) initial_hash_value ≡ true
unfolding roots some_root is_root primes primes_from_two with_next undivided initial_hash_value
initial_hash_value_lem = refl
