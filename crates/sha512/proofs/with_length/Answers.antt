-- `with_length` puts the length in bits at the block's end.
use Rattle.std.proofs.Common.{◌*◌, rules}
use Rattle.sha512.proofs.Filling.{with_length_is}
use Rattle.sha512.proofs.with_length.Goals as goal

pub returns : goal.returns
returns c = with_length_is c.args.block _ (8 * c.args.total) (search rules) (cc)
