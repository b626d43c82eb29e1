use mathlib.Core.Path.{refl, sym}
use mathlib.Core.Bool.{and-false}
use borrow.Author.Tests.{eq-eqb, ne_eqb}
use Rattle.machine.specs.Interrupts.{interrupted}
use Rattle.simulator.proofs.interrupts.enter_handler.Goals as goal

pub returns-then-c-ne0 : goal.returns-then-c-ne0
unfolding interrupted
returns-then-c-ne0 c = λ regs memory disk frame. rw (c.kept.ensures, ne_eqb _ _ c.if-c-ne0.true, and-false) refl

pub returns-then-is_requested : goal.returns-then-is_requested
unfolding interrupted
returns-then-is_requested c = λ regs memory disk frame.
    rw (c.with_handler.ensures, c.with_pc.ensures, sym c.is_requested.ensures, c.if-is_requested.true, eq-eqb _ _ c.if-c-ne0.false) refl

pub returns : goal.returns
unfolding interrupted
returns c = λ regs memory disk frame. rw (c.kept-2.ensures, sym c.is_requested.ensures, c.if-is_requested.false) refl
