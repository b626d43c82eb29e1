use Rattle.std.proofs.Common.{◌≡◌, ◌/◌, ◌^◌, ◌<◌}
use Rattle.text.specs.Numerals.{digits, low_bytes}
use Rattle.text.proofs.decimal.take_digits.Given as goal

abbrev pub invariant-loop : goal.invariant-loop
invariant-loop l = (low_bytes l.counter l.held ≡ digits 10 l.counter l.v) × (l.held < 256 ^ l.counter) × (l.rest ≡ l.v / 10 ^ l.counter)
