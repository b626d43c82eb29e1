use Rattle.runner.specs.Lab.{machine_of}
use Rattle.long_run.proofs.PieceLaws.{On}
use Rattle.long_run.proofs.run.run_on.Given as goal

abbrev pub invariant-loop-rt : goal.invariant-loop-rt
invariant-loop-rt l = On l.image l.irq2 l.budget (machine_of l.initial.state l.initial.memory l.initial.disk l.initial.frame) l.left (machine_of l.state l.memory l.disk l.frame)

abbrev pub decreases-loop-rt : goal.decreases-loop-rt
decreases-loop-rt l = l.left
