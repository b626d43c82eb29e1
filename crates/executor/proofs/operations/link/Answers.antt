use mathlib.Core.Path.{ap}
use Rattle.machine.specs.State.{Machine}
use Rattle.machine.specs.Execution.{jumped, executed}
use Rattle.executor.proofs.RegisterLaws.{register-put}
use Rattle.executor.proofs.operations.link.Goals as goal

pub returns : goal.returns
unfolding executed
returns c =
    let a = c.args in
    let p = c.put.ensures in
    λ io memory disk frame.
    rw (c.jump.ensures, ← c.next.ensures)
    (ap (λ (m : Machine). jumped a.o.rm m) (register-put a.c a.registers.now.regs _ io memory disk frame a.o.target c.next.result p))
