use mathlib.Core.Path.{refl}
use borrow.Author.Tests.{lt-ltb, le-ltb}
use Rattle.machine.specs.Execution.{executed}
use Rattle.executor.proofs.operations.store.Goals as goal

pub returns-then-a-ge-MEMORY : goal.returns-then-a-ge-MEMORY
unfolding executed
returns-then-a-ge-MEMORY c = λ regs io disk frame. rw (← c.plus-a.ensures, le-ltb _ _ c.if-a-ge-MEMORY.true, c.end.ensures) refl

pub returns : goal.returns
unfolding executed
returns c = λ regs io disk frame. rw (← c.plus-a.ensures, lt-ltb _ _ c.if-a-ge-MEMORY.false, ← c.plus.ensures, c.onward.ensures) refl
