use mathlib.Core.Path.{◌∙◌, ap}
use Rattle.machine.specs.Interrupts.{interrupted}
use Rattle.machine.specs.Cycle.{at_fetch}
use Rattle.simulator.proofs.StepLaws.{raised_is}
use Rattle.simulator.proofs.interrupts.begin_cycle.Goals as goal

pub returns : goal.returns
unfolding at_fetch
returns c = λ regs memory disk frame.
    let a = c.args in
    c.enter_handler.ensures regs memory disk frame
    ∙ ap interrupted (raised_is a.c regs a.io.now _ memory disk frame a.hit c.raise_irq2.ensures)
