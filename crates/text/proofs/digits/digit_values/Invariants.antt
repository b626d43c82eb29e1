use Rattle.text.specs.Numerals.{digit_value}
use Rattle.text.proofs.TableLaws.{Filled}
use Rattle.text.proofs.digits.digit_values.Given as goal

abbrev pub invariant-loop-c : goal.invariant-loop-c
invariant-loop-c l = Filled digit_value 256 256 l.table l.c
