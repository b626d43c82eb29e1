use mathlib.Core.Path.{refl, sym, ◌∙◌}
use Rattle.machine.specs.Execution.{executed}
use Rattle.isa.proofs.IoLaws.{listed_lt}
use Rattle.executor.proofs.output.output.Goals as goal

pub put_io-requires : goal.put_io-requires
put_io-requires c =
    let p = c.requires in (listed_lt _ (sym c.is_listed.ensures ∙ c.if-is_listed.true), p)

pub returns-then-is_listed : goal.returns-then-is_listed
unfolding executed
returns-then-is_listed c = λ regs memory disk. rw (← c.plus-a.ensures, ← c.is_listed.ensures, c.if-is_listed.true) (c.put_io.ensures regs memory disk)

pub returns : goal.returns
unfolding executed
returns c = λ regs memory disk. rw (← c.plus-a.ensures, ← c.is_listed.ensures, c.if-is_listed.false, c.end.ensures) refl
