use Rattle.long_run.proofs.PieceLaws.{fresh-ends}
use Rattle.long_run.proofs.run.run_budget.Goals as goal

pub returns : goal.returns
returns c =
    let a = c.args in
    fresh-ends _ a.memory.now a.disk.now a.frame.now c.fresh_record-fresh.ensures c.run_on.ensures
