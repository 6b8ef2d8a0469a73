-- `sha512_of_two` is the digest of the two slices, padded as one message.
use Rattle.std.proofs.Common.{◌+◌, ◌*◌, ◌/◌, length, length-append}
use Rattle.std.proofs.lemmas.List.{take_rest}
use Rattle.sha512.specs.Constants.{initial_hash_value}
use Rattle.sha512.specs.Padding.{ending, pad}
use Rattle.sha512.specs.Digest.{sha512}
use Rattle.sha512.proofs.Chain.{hash_two}
use Rattle.sha512.proofs.sha512_of_two.Goals as goal

pub returns : goal.returns
unfolding sha512 pad
returns c = let a = c.args.first.now in
    let b = c.args.second.now in
    cc (take_rest a (128 * (length a / 128)), hash_two initial_hash_value a b (ending (length a + length b)), length-append a b)
