-- The five sets: each N is prime, and the generator whose powers the set's table has is the least one. One computed test of each over all sets.
-- Assumes nothing.
use mathlib.Core.Bool.{Bool, not}
use Prim.Native.Nat.{ℕ, ◌-◌, ◌^◌, ◌%◌, ◌<◌, zero-le}
use native.Mathlib.Omega.{arith}
use lib.Dec.{T, eqb, ltb, ltb→lt, eqb→eq, T_not}
use borrow.Author.Tests.{eq-eqb}
use Rattle.algebra.specs.All.{all}
use Rattle.algebra.proofs.Test.{and_left, and_right, and_intro, true_holds}
use Rattle.parameters.specs.Sets.{sets, set_of}
use Rattle.transform.specs.UpFrom.{up_from}
use Rattle.transform.specs.Prime.{Prime, is_prime}
use Rattle.transform.specs.Generator.{Generator, LeastGenerator, generators, generator_of, is_generator, is_least_generator}
use Rattle.transform.proofs.UpFrom.{up_test, up_never, never_up}
use Rattle.transform.proofs.GeneratorLaws.{generator_by_order, order_full}

prime_of_test : (n : ℕ) → T (is_prime n) → Prime n
prime_of_test n t =
    let tests = all (λ (d : ℕ). not (eqb (n % d) 0)) (up_from 2 (n - 2)) in
    let above = ltb→lt 1 n (and_left (ltb 1 n) tests t) in
    record { above = above; undivided = λ d h l. up_never (λ (d : ℕ). n % d) 0 2 (n - 2) (and_right (ltb 1 n) tests t) d h (omega arith) }

module _ (r n : ℕ) (modulus : 1 < n) where
  abbrev round : Bool
  round = eqb (r ^ (n - 1) % n) 1

  abbrev others : Bool
  others = all (λ (d : ℕ). not (eqb (r ^ d % n) 1)) (up_from 1 (n - 2))

  generator_of_test : T (is_generator r n) → Generator r n
  generator_of_test t =
      generator_by_order r modulus (eqb→eq (r ^ (n - 1) % n) 1 (and_left round others t))
      (λ d h l. up_never (λ (d : ℕ). r ^ d % n) 1 1 (n - 2) (and_right round others t) d h (omega arith))

  -- the test misses no generator
  test_of_generator : Generator r n → T (is_generator r n)
  test_of_generator gen =
      and_intro round others (true_holds (eq-eqb (r ^ (n - 1) % n) 1 gen.round))
      (never_up (λ (d : ℕ). r ^ d % n) 1 1 (n - 2) (λ d h l. order_full modulus gen d h (omega arith)))

least_of_test : (r n : ℕ) → 1 < n → T (is_least_generator r n) → LeastGenerator r n
least_of_test r n modulus t =
    let others = all (λ (s : ℕ). not (is_generator s n)) (up_from 0 r) in
    record {
      generator = generator_of_test r n modulus (and_left (is_generator r n) others t);
      least = λ s h gen.
          T_not (is_generator s n) (up_test (λ (s : ℕ). not (is_generator s n)) 0 r (and_right (is_generator r n) others t) s zero-le (omega arith))
          (test_of_generator s n modulus gen);
    }

pub set_prime : (s : ℕ) → s < 5 → Prime (set_of s).n
unfolding sets set_of
set_prime s h = prime_of_test (set_of s).n (up_test (λ (s : ℕ). is_prime (set_of s).n) 0 5 tt s zero-le h)

pub set_generator : (s : ℕ) → s < 5 → LeastGenerator (generator_of s) (set_of s).n
unfolding sets set_of generators generator_of
set_generator s h =
    least_of_test (generator_of s) (set_of s).n (set_prime s h).above (up_test (λ (s : ℕ). is_least_generator (generator_of s) (set_of s).n) 0 5 tt s zero-le h)
