use Prim.Native.Nat.{◌+◌, ◌-◌, ◌≤◌}
use mathlib.Core.Path.{◌≡◌}
use lib.ListN.{length, drop}
use Rattle.text.specs.Lines.{lines}
use Rattle.labels.specs.Text.{code_count}
use Rattle.commands.proofs.instructions.count_instructions.Given as goal

abbrev pub invariant-loop-p : goal.invariant-loop-p
invariant-loop-p l = (l.n + code_count (lines (drop l.p l.text)) ≡ code_count (lines l.text)) × (l.p ≤ length l.text + 1) × (l.n ≤ l.p)

abbrev pub decreases-loop-p : goal.decreases-loop-p
decreases-loop-p l = length l.text + 1 - l.p
