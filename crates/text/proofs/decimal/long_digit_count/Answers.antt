use native.Mathlib.Omega.{arith}
use Rattle.text.proofs.DecimalLaws.{count-is}
use Rattle.text.proofs.decimal.long_digit_count.Goals as goal

pub returns-in-0-to-99999999999 : goal.returns-in-0-to-99999999999
returns-in-0-to-99999999999 c = omega (arith, count-is 10 (omega arith) 10 c.args.v (omega arith) (omega arith))

pub returns-in-100000000000-to-999999999999 : goal.returns-in-100000000000-to-999999999999
returns-in-100000000000-to-999999999999 c = omega (arith, count-is 10 (omega arith) 11 c.args.v (omega arith) (omega arith))

pub returns-in-1000000000000-to-9999999999999 : goal.returns-in-1000000000000-to-9999999999999
returns-in-1000000000000-to-9999999999999 c = omega (arith, count-is 10 (omega arith) 12 c.args.v (omega arith) (omega arith))

pub returns-in-10000000000000-to-99999999999999 : goal.returns-in-10000000000000-to-99999999999999
returns-in-10000000000000-to-99999999999999 c = omega (arith, count-is 10 (omega arith) 13 c.args.v (omega arith) (omega arith))

pub returns-in-100000000000000-to-999999999999999 : goal.returns-in-100000000000000-to-999999999999999
returns-in-100000000000000-to-999999999999999 c = omega (arith, count-is 10 (omega arith) 14 c.args.v (omega arith) (omega arith))

pub returns-in-1000000000000000-to-9999999999999999 : goal.returns-in-1000000000000000-to-9999999999999999
returns-in-1000000000000000-to-9999999999999999 c = omega (arith, count-is 10 (omega arith) 15 c.args.v (omega arith) (omega arith))

pub returns-in-10000000000000000-to-99999999999999999 : goal.returns-in-10000000000000000-to-99999999999999999
returns-in-10000000000000000-to-99999999999999999 c = omega (arith, count-is 10 (omega arith) 16 c.args.v (omega arith) (omega arith))

pub returns-in-100000000000000000-to-999999999999999999 : goal.returns-in-100000000000000000-to-999999999999999999
returns-in-100000000000000000-to-999999999999999999 c = omega (arith, count-is 10 (omega arith) 17 c.args.v (omega arith) (omega arith))

pub returns-in-1000000000000000000-to-9999999999999999999 : goal.returns-in-1000000000000000000-to-9999999999999999999
returns-in-1000000000000000000-to-9999999999999999999 c = omega (arith, count-is 10 (omega arith) 18 c.args.v (omega arith) (omega arith))

pub returns-in_default : goal.returns-in_default
returns-in_default c = omega (arith, count-is 10 (omega arith) 19 c.args.v (omega arith) (omega arith))
