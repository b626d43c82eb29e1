use mathlib.Core.Path.{refl}
use native.Mathlib.Omega.{arith}
use Rattle.machine.specs.Execution.{executed}
use Rattle.isa.specs.Operations.{operation_of}
use Rattle.isa.proofs.OperationLaws.{unknown_above}
use Rattle.executor.proofs.execute.execute.Goals as goal

pub returns-in-15 : goal.returns-in-15
unfolding operation_of
returns-in-15 c =
    let e = c.link.ensures in rw c.in-15.is (λ disk. e _ _ disk _)

pub returns-in-16 : goal.returns-in-16
unfolding operation_of
returns-in-16 c =
    let e = c.load.ensures in rw c.in-16.is (λ disk. e _ disk _)

pub returns-in-17 : goal.returns-in-17
unfolding operation_of
returns-in-17 c =
    let e = c.store.ensures in rw c.in-17.is (λ disk. e c.args.registers.now.regs _ disk _)

pub returns-in-18 : goal.returns-in-18
unfolding operation_of
returns-in-18 c =
    let e = c.leave_handler.ensures in rw c.in-18.is (λ disk. e c.args.registers.now.regs _ disk _)

pub returns-in-19 : goal.returns-in-19
unfolding operation_of
returns-in-19 c =
    let e = c.input.ensures in rw c.in-19.is (λ disk. e _ disk _)

pub returns-in-20 : goal.returns-in-20
unfolding operation_of
returns-in-20 c =
    let e = c.output.ensures in rw c.in-20.is (λ disk. e c.args.registers.now.regs _ disk)

pub returns-in-21 : goal.returns-in-21
unfolding operation_of executed
returns-in-21 c = rw (c.in-21.is, c.end.ensures) (λ disk. refl)

pub returns-in-22-to-4294967295 : goal.returns-in-22-to-4294967295
unfolding executed
returns-in-22-to-4294967295 c = rw (unknown_above c.args.op (omega arith), c.end-in-22-to-4294967295.ensures) (λ disk. refl)
