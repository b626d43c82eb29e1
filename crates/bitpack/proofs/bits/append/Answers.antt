use Rattle.bitpack.proofs.BitLaws.{shifted_in}
use Rattle.bitpack.proofs.bits.append.Goals as goal

pub returns : goal.returns
returns c = shifted_in c.args.a c.args.k c.args.v c.requires.0 c.requires.1
