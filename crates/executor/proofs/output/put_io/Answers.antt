use mathlib.Core.Path.{refl, ap}
use native.Mathlib.Omega.{arith}
use borrow.Author.Tests.{ne_eqb}
use Rattle.machine.specs.Execution.{onward, outputted}
use Rattle.executor.proofs.PixelLaws.{painted-is}
use Rattle.executor.proofs.output.put_io.Goals as goal

pub returns-in-14 : goal.returns-in-14
unfolding outputted
returns-in-14 c = λ regs memory disk. rw c.in-14.is (c.command.ensures regs memory disk _)

pub returns-in-17 : goal.returns-in-17
unfolding outputted
returns-in-17 c = λ regs memory disk. rw (c.in-17.is, c.onward.ensures) refl

pub returns-in-22 : goal.returns-in-22
unfolding outputted
returns-in-22 c = λ regs memory disk.
    let a = c.args in
    rw (c.in-22.is, c.onward-in-22.ensures) (ap onward (painted-is a.x a.c regs a.io.now memory disk a.frame.now _ c.paint.ensures))

pub returns-in_default : goal.returns-in_default
unfolding outputted
returns-in_default c = λ regs memory disk.
    let a = c.args.a in
    rw (ne_eqb a 14 (λ e. omega arith), ne_eqb a 17 (λ e. omega arith), ne_eqb a 22 (λ e. omega arith), c.onward-in_default.ensures, c.low_bits.ensures) refl
