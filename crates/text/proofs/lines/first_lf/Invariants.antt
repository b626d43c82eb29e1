use Rattle.std.proofs.Common.{◌≡◌, ◌+◌, length, drop}
use Rattle.text.specs.Lines.{first_line}
use Rattle.text.proofs.lines.first_lf.Given as goal

abbrev pub invariant-loop-at : goal.invariant-loop-at
invariant-loop-at l = l.at + length (first_line (drop l.at l.s)) ≡ l.from + length (first_line (drop l.from l.s))
