use native.Mathlib.Omega.{arith}
use Rattle.executor.specs.Lent.{Sized}
use Rattle.long_run.proofs.PieceLaws.{piece}
use Rattle.long_run.proofs.run.run_piece.Goals as goal

pub returns-clause-piece : goal.returns-clause-piece
returns-clause-piece c =
    let a = c.args in
    let sizes : Sized a.memory.now a.disk.now a.frame.now = record { memory_size = c.told-memory; disk_size = c.told-disk; frame_size = c.told-frame } in
    let log-size = c.told-log in
    piece a.image.now a.irq2.now a.memory.now a.disk.now a.frame.now a.log.now a.state a.budget c.requires.0 c.told-image sizes (omega arith) c.requires.1 c.run.result _ _ _ _ c.run.ensures

pub returns-clause-bytes_bound : goal.returns-clause-bytes_bound
returns-clause-bytes_bound c = let p = returns-clause-piece c in omega (arith, p.room, c.run.auto.log, c.told-log)
