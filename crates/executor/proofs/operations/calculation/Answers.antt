use mathlib.Core.Path.{ap}
use Rattle.machine.specs.Execution.{onward, executed}
use Rattle.isa.proofs.OperationLaws.{calculation_at}
use Rattle.executor.proofs.RegisterLaws.{register-put}
use Rattle.executor.proofs.operations.calculation.Goals as goal

pub returns : goal.returns
unfolding executed
returns c =
    let a = c.args in
    let p = c.put.ensures in
    λ io memory disk frame.
    rw (calculation_at a.op c.requires.0, c.onward.ensures, ← c.calculate.ensures)
    (ap onward (register-put a.c a.registers.now.regs _ io memory disk frame a.o.target c.calculate.result p))
