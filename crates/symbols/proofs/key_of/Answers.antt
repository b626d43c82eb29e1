use Rattle.symbols.proofs.KeyLaws.{one_keyed, all_keyed}
use Rattle.symbols.proofs.key_of.Goals as goal

pub loop-b-preserved : goal.loop-b-preserved
loop-b-preserved c = rw c.from.ensures (one_keyed c.loop-b.invariant c.loop-b-test.true)

pub returns : goal.returns
returns c = all_keyed c.loop-b.invariant c.loop-b-test.false
