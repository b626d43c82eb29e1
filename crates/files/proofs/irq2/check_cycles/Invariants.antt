use Prim.Native.Nat.{◌+◌, ◌-◌, ◌≤◌}
use mathlib.Core.Path.{◌≡◌}
use lib.ListN.{length, drop}
use Rattle.text.specs.Questions.{accepted, first_bad}
use Rattle.text.specs.Lines.{lines}
use Rattle.files.specs.Irq2File.{cycle_questions, irq2_outcome}
use Rattle.files.proofs.Irq2Laws.{least_after}
use Rattle.files.proofs.irq2.check_cycles.Given as goal

abbrev pub invariant-loop-at : goal.invariant-loop-at
invariant-loop-at l = (first_bad (cycle_questions l.room (lines l.text)) l.i (lines (drop l.at l.text)) (accepted (length (lines l.text))) ≡ irq2_outcome l.room l.text)
    × (lines (drop l.at l.text) ≡ drop l.i (lines l.text))
    × (l.least ≡ least_after (lines l.text) l.i)
    × (l.i + length (lines (drop l.at l.text)) ≡ length (lines l.text))
    × (l.i ≤ l.at)
    × (l.at ≤ length l.text + 1)

abbrev pub decreases-loop-at : goal.decreases-loop-at
decreases-loop-at l = length l.text + 1 - l.at
