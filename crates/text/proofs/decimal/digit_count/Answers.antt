use native.Mathlib.Omega.{arith}
use Rattle.text.proofs.DecimalLaws.{count-one, count-is}
use Rattle.text.proofs.decimal.digit_count.Goals as goal

pub returns-in-0-to-9 : goal.returns-in-0-to-9
returns-in-0-to-9 c = omega (arith, count-one 10 (omega arith) c.args.v (omega arith))

pub returns-in-10-to-99 : goal.returns-in-10-to-99
returns-in-10-to-99 c = omega (arith, count-is 10 (omega arith) 1 c.args.v (omega arith) (omega arith))

pub returns-in-100-to-999 : goal.returns-in-100-to-999
returns-in-100-to-999 c = omega (arith, count-is 10 (omega arith) 2 c.args.v (omega arith) (omega arith))

pub returns-in-1000-to-9999 : goal.returns-in-1000-to-9999
returns-in-1000-to-9999 c = omega (arith, count-is 10 (omega arith) 3 c.args.v (omega arith) (omega arith))

pub returns-in-10000-to-99999 : goal.returns-in-10000-to-99999
returns-in-10000-to-99999 c = omega (arith, count-is 10 (omega arith) 4 c.args.v (omega arith) (omega arith))

pub returns-in-100000-to-999999 : goal.returns-in-100000-to-999999
returns-in-100000-to-999999 c = omega (arith, count-is 10 (omega arith) 5 c.args.v (omega arith) (omega arith))

pub returns-in-1000000-to-9999999 : goal.returns-in-1000000-to-9999999
returns-in-1000000-to-9999999 c = omega (arith, count-is 10 (omega arith) 6 c.args.v (omega arith) (omega arith))

pub returns-in-10000000-to-99999999 : goal.returns-in-10000000-to-99999999
returns-in-10000000-to-99999999 c = omega (arith, count-is 10 (omega arith) 7 c.args.v (omega arith) (omega arith))

pub returns-in-100000000-to-999999999 : goal.returns-in-100000000-to-999999999
returns-in-100000000-to-999999999 c = omega (arith, count-is 10 (omega arith) 8 c.args.v (omega arith) (omega arith))

pub returns-in-1000000000-to-9999999999 : goal.returns-in-1000000000-to-9999999999
returns-in-1000000000-to-9999999999 c = omega (arith, count-is 10 (omega arith) 9 c.args.v (omega arith) (omega arith))
