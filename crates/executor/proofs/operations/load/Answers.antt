use mathlib.Core.Path.{refl, ap}
use borrow.Author.Tests.{lt-ltb, le-ltb}
use Rattle.machine.specs.Execution.{onward, executed}
use Rattle.executor.proofs.RegisterLaws.{register-put}
use Rattle.executor.proofs.operations.load.Goals as goal

pub returns-then-a-ge-MEMORY : goal.returns-then-a-ge-MEMORY
unfolding executed
returns-then-a-ge-MEMORY c = λ io disk frame. rw (← c.plus-a.ensures, le-ltb _ _ c.if-a-ge-MEMORY.true, c.end.ensures) refl

pub returns : goal.returns
unfolding executed
returns c =
    let a = c.args in
    let p = c.put.ensures in
    λ io disk frame.
    rw (← c.plus-a.ensures, lt-ltb _ _ c.if-a-ge-MEMORY.false, c.onward.ensures, ← c.plus.ensures)
    (ap onward (register-put a.c a.registers.now.regs _ io a.memory.now disk frame a.o.target c.plus.result p))
