use mathlib.Core.Path.{◌≡◌}
use lib.ListN.{length}
use Rattle.saved.specs.Calls.{fresh_record}
use Rattle.runner.specs.Lab.{standing_of}
use Rattle.bench_run.proofs.LoopLaws.{Made}
use Rattle.bench_run.proofs.simp_bench_runs.Given as goal

abbrev pub invariant-loop-left : goal.invariant-loop-left
invariant-loop-left l = Made l.irq2 (standing_of l.image fresh_record l.initial.memory l.initial.disk l.initial.frame) l.budget l.initial.log (standing_of l.image l.state l.memory l.disk l.frame) l.left l.log
    × (length l.memory ≡ length l.initial.memory) × (length l.disk ≡ length l.initial.disk) × (length l.frame ≡ length l.initial.frame)

abbrev pub decreases-loop-left : goal.decreases-loop-left
decreases-loop-left l = l.left
