use Rattle.std.proofs.Common.{arith}
use Rattle.text.proofs.WriteLaws.{one_written, all-written}
use Rattle.text.proofs.decimal.put_decimal_digits.Goals as goal

pub loop-i-preserved : goal.loop-i-preserved
loop-i-preserved c = one_written c.loop-i.invariant (omega arith) _ c.digit.ensures

pub returns : goal.returns
returns c = all-written c.loop-i.invariant (omega arith)
