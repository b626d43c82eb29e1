use Rattle.std.proofs.Common.{ℕ, ◌+◌, ◌*◌, ◌/◌, ◌%◌}
use Rattle.text.specs.Numerals.{digit}
use Rattle.text.proofs.TableLaws.{Filled}
use Rattle.text.proofs.digits.hex_pairs.Given as goal

-- What entry k is to hold.
abbrev pub pair : ℕ → ℕ
pair k = digit (k / 16) + digit (k % 16) * 256

abbrev pub invariant-loop-n : goal.invariant-loop-n
invariant-loop-n l = Filled pair 256 256 l.table l.n
