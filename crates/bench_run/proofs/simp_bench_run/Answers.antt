use mathlib.Core.Path.{refl, ap}
use Rattle.machine.specs.declared.Record.{Record}
use Rattle.saved.specs.Calls.{fresh_record}
use Rattle.runner.specs.Lab.{standing_of}
use Rattle.runner.specs.Answers.{done_of}
use Rattle.bench_run.specs.ByCalls.{stands_with}
use Rattle.bench_run.proofs.LoopLaws.{by_one-run}
use Rattle.bench_run.proofs.simp_bench_run.Goals as goal

pub returns : goal.returns
returns c =
    let a = c.args in
    let r = c.run-r in
    by_one-run a.irq2.now a.budget a.log.now (standing_of a.image.now fresh_record a.memory.now a.disk.now a.frame.now) _ (ap (λ (s : Record). standing_of a.image.now s a.memory.now a.disk.now a.frame.now) c.fresh_record.ensures) (done_of r.result a.image.now r.new.memory r.new.disk r.new.frame r.new.log) r.ensures (stands_with a.image.now r.new.memory r.new.disk r.new.frame) (r.result.state, refl)
