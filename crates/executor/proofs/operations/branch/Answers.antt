use mathlib.Core.Path.{refl}
use Rattle.machine.specs.Execution.{executed}
use Rattle.isa.proofs.OperationLaws.{comparison_at}
use Rattle.executor.proofs.operations.branch.Goals as goal

pub returns-then-holds : goal.returns-then-holds
unfolding executed
returns-then-holds c = λ regs io memory disk frame. rw (comparison_at c.args.op c.requires.0 c.requires.1, ← c.holds.ensures, c.if-holds.true, c.jump.ensures) refl

pub returns : goal.returns
unfolding executed
returns c = λ regs io memory disk frame. rw (comparison_at c.args.op c.requires.0 c.requires.1, ← c.holds.ensures, c.if-holds.false, c.onward.ensures) refl
