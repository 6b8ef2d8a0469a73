-- Demand 3 over whole sessions (document 01, "Hiding, word by word"), as one claim about the commands of a list of plays.
-- Assumes nothing.
use Rattle.std.specs.Prelude.{◌≡◌, not, List, [], ◌↔◌, T, ℤ}
use Rattle.algebra.specs.All.{all}
use Rattle.passign.specs.Hiding.{our_library, Accepted, Every, Same, Each₃, Hidden}
use Rattle.session_rules.specs.Plays.{Event, is_signing, signings}

-- no 06 was accepted
abbrev pub NoneSigned : List Event → Type 0
NoneSigned es = T (all (λ (e : Event). not (is_signing e)) es)

pub record KeysHidden (es : List Event) : Type 0 where
  -- each accepted 06 is a signing that the library accepts with what is read from the commands before it, and its row prints the bytes
  pub accepted : Every (Accepted our_library) (signings es)
  -- for every list of ternary keys of equal public evaluations, one for each accepted 06, exactly one list of masks within k, one for each, each offered
  -- alone, gives the same commitments, challenges and signature bytes; it is z minus the product at each place, and no other; the check says yes to all.
  -- At each place both keys sign and the check judges under the rule in force at that 06, which its call has
  pub hidden : Hidden our_library (signings es)
  -- "A list of plays with no accepted 06 has the empty list of masks": there is no signing, and no other list of masks does
  pub none : NoneSigned es → (signings es ≡ []) × ((ys : List (List ℤ)) → Each₃ (Same our_library) (signings es) [] ys ↔ (ys ≡ []))
