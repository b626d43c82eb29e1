use Rattle.text.proofs.WriteLaws.{Writing}
use Rattle.text.proofs.decimal.put_decimal_digits.Given as goal

abbrev pub invariant-loop-i : goal.invariant-loop-i
invariant-loop-i l = Writing 10 l.initial.out l.at l.k l.v l.out l.i l.rest
