use Prim.Native.Nat.{◌-◌, ◌≤◌}
use mathlib.Core.Path.{◌≡◌}
use lib.ListN.{length}
use Rattle.executor.specs.Lent.{packed}
use Rattle.irq2_list.specs.Places.{awaited_at}
use Rattle.runner.proofs.TurnLaws.{Turning}
use Rattle.runner.proofs.GoLaws.{Under}
use Rattle.runner.proofs.cycles.make_cycles.Given as goal

abbrev pub invariant-loop-c : goal.invariant-loop-c
invariant-loop-c l = Under l.image l.irq2 (packed l.start l.initial.registers.regs l.initial.io l.initial.memory l.initial.disk l.initial.frame) l.budget l.initial.log (l.c.age - l.start.age) l.at l.awaited.place (packed l.c l.registers.regs l.io l.memory l.disk l.frame) l.log
    × Turning l.c l.registers.regs l.io l.memory l.disk l.frame
    × (length l.log ≡ length l.initial.log) × (length l.memory ≡ length l.initial.memory) × (length l.disk ≡ length l.initial.disk) × (length l.frame ≡ length l.initial.frame)
    × (l.start.age ≤ l.c.age) × (l.c.age ≤ l.last)
    × (l.awaited.cycle ≡ awaited_at l.awaited.place l.irq2)

abbrev pub decreases-loop-c : goal.decreases-loop-c
decreases-loop-c l = l.last - l.c.age
