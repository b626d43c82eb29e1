use mathlib.Core.Path.{refl}
use Rattle.machine.specs.Execution.{executed}
use Rattle.executor.proofs.operations.leave_handler.Goals as goal

pub returns : goal.returns
unfolding executed
returns c = λ regs memory disk frame. rw (c.with_pc.ensures, c.with_handler.ensures) refl
