use mathlib.Core.Path.{◌≡◌}
use Prim.Native.Nat.{◌+◌, ◌<◌}
use lib.ListN.{drop}
use Rattle.check_asm.specs.Rows.{in_row, row_end}
use Rattle.check_asm.proofs.memories.row_end.Given as goal

abbrev pub invariant-loop-end : goal.invariant-loop-end
invariant-loop-end l = (row_end l.words l.i ≡ l.end + in_row l.word (drop l.end l.words)) × (l.i < l.end)
