use Rattle.devices.proofs.MoveLaws.{steps_are}
use Rattle.devices.proofs.cycle.step_devices.Goals as goal

pub returns : goal.returns
returns c = let a = c.args in
    steps_are a.began a.d _ a.io.now _ _ _ a.memory.now a.disk.now _ _
    c.step_timer.ensures
    c.step_disk-r.ensures c.step_clock.ensures
