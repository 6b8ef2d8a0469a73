-- Demand 3 over whole sessions: one file, whatever its bytes and length, a session just opened, and any list of plays, whatever row buffer each is lent.
-- For every choice of ternary keys of equal public evaluations, one for each accepted 06, exactly one list of masks within k, one for each, does the
-- following: each mask, offered alone to the library's signing with its key, gives the same commitment, the same challenge and the signature bytes that
-- the row prints. It is z minus the product of the key and the challenge at each place. The library's check says yes to each. What each 06 signs with is
-- read from the commands played before it, with the rule of hashing, which the other key and the check have too. A list of plays with no accepted 06 has the
-- empty list of masks.
-- Assumes nothing.
use mathlib.Core.List.{List}
use Prim.Native.Nat.{ℕ}
use Rattle.passign.specs.Hiding.{our_library}
use Rattle.passign.proofs.HidingOfMany as library
use Rattle.session_rules.specs.Plays.{events, no_material, signings}
use Rattle.session_rules.specs.KeysHidden.{KeysHidden}
use Rattle.session_rules.proofs.Signings.{accepted_each, none_signed}

pub hiding_of_sessions : (file : List ℕ) (buffers : List (List ℕ)) → KeysHidden (events file buffers)
unfolding signings
hiding_of_sessions file buffers =
    let es = events file buffers in
    record {
      accepted = accepted_each file buffers;
      hidden = library.entry_hiding_of_many (signings es) (accepted_each file buffers);
      none = λ n. let e = none_signed es no_material n in (e, rw e (library.no_mask_for_none our_library));
    }
