use Rattle.text.proofs.WriteLaws.{write_pair}
use Rattle.text.proofs.digits.PairTable.put_pair.Goals as goal

pub returns : goal.returns
returns c = let n = c.args.n in rw c.from.ensures (write_pair c.args.out.now c.args.at n _ c.ranges.n.fits (c.args.self.now.filled n c.ranges.n.fits))
