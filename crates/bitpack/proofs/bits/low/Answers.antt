use Rattle.bitpack.proofs.BitLaws.{masked}
use Rattle.bitpack.proofs.bits.low.Goals as goal

pub returns : goal.returns
returns c = masked c.args.x c.args.k c.requires
