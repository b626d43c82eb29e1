use mathlib.Core.Path.{◌≡◌}
use lib.ListN.{take}
use Rattle.source.specs.Bytes.{is_allowed, are_all}
use Rattle.source.proofs.bytes.are_right_bytes.Given as goal

abbrev pub invariant-loop-b : goal.invariant-loop-b
invariant-loop-b l = l.right ≡ are_all is_allowed (take l.b-index l.line)
