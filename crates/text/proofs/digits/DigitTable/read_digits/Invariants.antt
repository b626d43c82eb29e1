use Rattle.std.proofs.Common.{◌≡◌, ◌^◌, ◌<◌, drop}
use Rattle.text.specs.Numerals.{numeral}
use Rattle.text.proofs.DigitLaws.{numeral_after}
use Rattle.text.proofs.digits.DigitTable.read_digits.Given as goal

abbrev pub invariant-loop-c : goal.invariant-loop-c
invariant-loop-c l = (numeral_after l.base l.acc (drop l.c-index l.s) ≡ numeral l.base l.s) × (l.acc < l.base ^ l.c-index)
