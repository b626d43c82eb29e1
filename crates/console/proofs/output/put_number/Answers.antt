use native.Mathlib.Omega.{arith}
use Rattle.text.proofs.DecimalLaws.{length-decimal}
use Rattle.console.proofs.AppendLaws.{pieces_one, pieces_none}
use Rattle.console.proofs.output.put_number.Goals as goal

pub returns-then-line-at : goal.returns-then-line-at
returns-then-line-at c = pieces_none _ _ _ (omega arith) (rw length-decimal (omega (arith, c.digit_count.ensures.0)))

pub returns : goal.returns
returns c = pieces_one _ _ _ (omega arith) _ _ (rw length-decimal (omega (arith, c.digit_count.ensures.0))) c.put_decimal.ensures.0 (rw length-decimal c.put_decimal.ensures.1)
