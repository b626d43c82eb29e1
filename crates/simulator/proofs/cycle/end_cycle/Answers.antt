use Rattle.simulator.proofs.StepLaws.{finished-is}
use Rattle.simulator.proofs.cycle.end_cycle.Goals as goal

pub returns : goal.returns
returns c = λ regs frame.
    let a = c.args in
    rw (c.with_drive.ensures, c.with_age.ensures) (finished-is a.began a.c _ regs a.io.now _ a.memory.now _ a.disk.now _ frame c.step_devices-drive.ensures)
