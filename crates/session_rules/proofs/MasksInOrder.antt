-- The masks of the call that a 06 is lie in it as they were read: mask number i of the call is mask number i of the material, after any list of plays. So the
-- commitment of a signing is that of the first mask held that passes.
-- Assumes nothing.
use mathlib.Core.Path.{◌≡◌}
use mathlib.Core.List.{List, []}
use Prim.Native.Nat.{ℕ, ◌<◌}
use lib.ListN.{length, get_or}
use Rattle.signing.specs.Signer.{mask_at}
use Rattle.session_rules.specs.Plays.{events, params_in, call_with}
use Rattle.session_rules.specs.HeldIsRead.{material_read}
use Rattle.session_rules.proofs.Library.{mask_of_flattened}
use Rattle.session_rules.proofs.Reaching.{kept_after}

pub masks_in_order : (file : List ℕ) (buffers : List (List ℕ)) (i : ℕ)
    → let m = material_read (events file buffers) in i < length m.masks → mask_at (params_in m) (call_with m).masks i ≡ get_or m.masks i []
masks_in_order file buffers i h =
    let m = material_read (events file buffers) in
    let (same, tested) = (kept_after file buffers).masks in
    mask_of_flattened (params_in m) m.masks i (rw same at tested.each) h
