use native.Mathlib.Omega.{arith}
use Rattle.files.proofs.PutLaws.{sector_turn, sector-end}
use Rattle.files.proofs.write.put_sectors.Goals as goal

pub loop-s-preserved : goal.loop-s-preserved
loop-s-preserved c = sector_turn c.loop-s.invariant (omega arith) (omega arith) c.put_words-at.ensures

pub returns : goal.returns
returns c = sector-end c.loop-s.invariant (omega arith) c.loop-s-test.false
