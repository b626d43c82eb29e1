use mathlib.Core.Path.{refl, sym, ◌∙◌, ap}
use Rattle.machine.specs.Execution.{onward, executed}
use Rattle.isa.proofs.IoLaws.{listed_lt}
use Rattle.executor.proofs.RegisterLaws.{register-put}
use Rattle.executor.proofs.operations.input.Goals as goal

pub bounds-io-a : goal.bounds-io-a
bounds-io-a c = listed_lt _ (sym c.is_listed.ensures ∙ c.if-is_listed.true)

pub returns-then-is_listed : goal.returns-then-is_listed
unfolding executed
returns-then-is_listed c =
    let a = c.args in
    let p = c.put.ensures in
    λ memory disk frame.
    rw (← c.plus-a.ensures, ← c.is_listed.ensures, c.if-is_listed.true, c.onward.ensures)
    (ap onward (register-put a.c a.registers.now.regs _ a.io.now memory disk frame a.o.target _ p))

pub returns : goal.returns
unfolding executed
returns c = λ memory disk frame. rw (← c.plus-a.ensures, ← c.is_listed.ensures, c.if-is_listed.false, c.end.ensures) refl
