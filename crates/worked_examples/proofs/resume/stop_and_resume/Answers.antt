use native.Mathlib.Omega.{arith}
use Rattle.worked_examples.specs.declared.Resumed.{Resumed}
use Rattle.worked_examples.proofs.ResumeLaws.{resumes}
use Rattle.worked_examples.proofs.resume.stop_and_resume.Goals as goal

pub returns : goal.returns
returns c =
    let a = c.args in
    let fresh = c.fresh_record-fresh in
    let first = c.run-stopped in
    let trip = c.save_and_load-trip in
    let sector = c.write_and_read-placed in
    let second = c.run-resumed in
    let r : Resumed = record { first = first.result; trip = trip.result; sector = sector.result; second = second.result } in
    resumes a.irq2.now a.image.now a.memory.now a.disk.now a.frame.now a.first_log.now a.bytes.now a.text.now a.words.now a.second_log.now a.first a.sector a.second r fresh.result
    _ _ _ _ _ _ _ _ _ _ _ _ fresh.ensures first.ensures trip.ensures sector.ensures second.ensures (omega arith)
