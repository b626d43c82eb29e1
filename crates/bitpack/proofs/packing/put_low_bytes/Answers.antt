use native.Mathlib.Omega.{arith}
use Rattle.bitpack.proofs.LastBytes.{none-put, one_more, all-put}
use Rattle.bitpack.proofs.packing.put_low_bytes.Goals as goal

pub loop-n-init : goal.loop-n-init
loop-n-init c = none-put c.args.x c.args.out.now

pub loop-n-preserved : goal.loop-n-preserved
loop-n-preserved c = one_more c.loop-n.invariant _ c.loop-n-test.true c.low_byte.ensures

pub returns : goal.returns
returns c = all-put c.loop-n.invariant (omega arith)
