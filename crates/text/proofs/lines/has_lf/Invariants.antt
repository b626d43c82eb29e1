use Rattle.std.proofs.Common.{◌≡◌, ◌||◌, drop}
use Rattle.text.specs.Lines.{has_lf}
use Rattle.text.proofs.lines.has_lf.Given as goal

abbrev pub invariant-loop-b : goal.invariant-loop-b
invariant-loop-b l = (l.found || has_lf (drop l.b-index l.part)) ≡ has_lf l.part
