use Rattle.std.proofs.Common.{◌≡◌, true, ◌^◌, ◌<◌, drop}
use Rattle.text.specs.Numerals.{all_digits, value}
use Rattle.text.proofs.DigitLaws.{value_after}
use Rattle.text.proofs.digits.DigitTable.value_of.Given as goal

abbrev pub invariant-loop-c : goal.invariant-loop-c
invariant-loop-c l = (value_after l.base l.acc (drop l.c-index l.s) ≡ value l.base l.s) × (all_digits l.base (drop l.c-index l.s) ≡ true) × (l.acc < l.base ^ l.c-index)
