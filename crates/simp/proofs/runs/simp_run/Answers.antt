use Prim.Native.Nat.{ℕ}
use mathlib.Core.Path.{◌∙◌, ap}
use mathlib.Core.List.{[], ◌∷◌}
use borrow.Author.Tests.{eq-eqb}
use Rattle.runner.specs.Answers.{done_of}
use Rattle.simp.proofs.RunLaws.{runs}
use Rattle.simp.proofs.runs.simp_run.Goals as goal

pub returns : goal.returns
returns c =
    let a = c.args in
    let r = c.run-r in
    runs
    a.numbers.now
    a.image.now
    a.memory.now
    a.disk.now
    a.frame.now
    a.irq2.now
    a.budget
    a.log.now
    a.report.now
    (eq-eqb _ 3 c.if-report-ne-REPORT_NUMBERS.false)
    (eq-eqb _ 40 c.if-numbers-ne-RECORD_NUMBERS.false)
    _
    c.record_of.ensures
    (done_of r.result a.image.now r.new.memory r.new.disk r.new.frame r.new.log)
    r.ensures
    c.outcome-number.result
    c.outcome-number.ensures
    _
    c.put_record.ensures
    _
    (c.put_report-2.ensures ∙ ap (λ (x : ℕ). r.result.cycles ∷ r.result.bytes ∷ x ∷ []) c.reason.ensures)
