use Rattle.std.proofs.Common.{arith}
use Rattle.text.proofs.WriteLaws.{last_written, first-written, all-written}
use Rattle.text.proofs.digits.PairTable.put_hex.Goals as goal

pub loop-left-preserved : goal.loop-left-preserved
loop-left-preserved c = let p = c.put_pair in
    last_written c.loop-left.invariant (omega arith) 2 (omega arith) _ p.auto.out p.ensures

pub returns-then-left-eq1 : goal.returns-then-left-eq1
returns-then-left-eq1 c = first-written c.loop-left.invariant c.if-left-eq1.true _ c.digit.ensures

pub returns-else-left-eq1 : goal.returns-else-left-eq1
returns-else-left-eq1 c = let other = c.if-left-eq1.false in all-written c.loop-left.invariant (omega arith)
