use Prim.Native.Nat.{◌+◌, ◌-◌}
use mathlib.Core.Path.{◌≡◌}
use lib.ListN.{length}
use Rattle.files.proofs.Irq2Laws.{CyclesSet}
use Rattle.files.proofs.irq2.fill_cycles.Given as goal

abbrev pub invariant-loop-at : goal.invariant-loop-at
invariant-loop-at l = record {
  set : CyclesSet l.text l.initial.cycles l.cycles l.at l.i;
  size : length l.cycles ≡ length l.initial.cycles;
}

abbrev pub decreases-loop-at : goal.decreases-loop-at
decreases-loop-at l = length l.text + 1 - l.at
