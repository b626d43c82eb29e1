use Rattle.std.proofs.Common.{refl, arith, lt-ltb}
use Rattle.devices.specs.Disk.{disk_stepped}
use Rattle.devices.proofs.disk.step_disk.Goals as goal

pub returns-then-began-eq0 : goal.returns-then-began-eq0
unfolding disk_stepped
returns-then-began-eq0 c = rw c.if-began-eq0.true refl

pub returns : goal.returns
unfolding disk_stepped
returns c = let a = c.args in
    let busy = c.if-began-eq0.false in
    rw (lt-ltb 0 a.began (omega arith)) c.serve.ensures
