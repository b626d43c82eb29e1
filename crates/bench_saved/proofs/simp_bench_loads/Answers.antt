use Rattle.std.proofs.Common.{refl, ◌∙◌}
use Rattle.text.specs.Questions.{accepted}
use Rattle.saved.specs.Answers.{load_refusal}
use Rattle.saved.proofs.AnswerLaws.{load_refused}
use Rattle.bench_saved.proofs.TurnLaws.{read, read_none}
use Rattle.bench_saved.proofs.simp_bench_loads.Goals as goal
use Rattle.bench_saved.proofs.simp_bench_loads.Goals.{in-Ok, in-Err}

pub loop-preserved : goal.loop-preserved
loop-preserved c =
    elim c.match-load.branch [
      | in-Ok w ↦ let e = w.in-Ok.ensures in rw (w.r-is, w.k-is) (read c.loop.invariant (accepted 0) 1 _ refl e.0 e.1)
      | in-Err w ↦ let e = w.in-Err.ensures in
          rw (w.r-is, w.k-is) (read_none c.loop.invariant (load_refusal w.in-Err.field-0) (load_refused w.in-Err.field-0) _ e.0 (w.fresh_record-r-in-Err.ensures ∙ e.1))
    ]
