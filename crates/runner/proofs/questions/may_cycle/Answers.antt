use native.Mathlib.Omega.{arith}
use borrow.Author.Tests.{eq-eqb, ne_eqb}
use Rattle.files.specs.Sizes.{cycle_limit}
use Rattle.runner.proofs.GoLaws.{counted_yes, enough}
use Rattle.runner.proofs.questions.may_cycle.Goals as goal

pub returns-then-room-ge-MOST_BYTES : goal.returns-then-room-ge-MOST_BYTES
returns-then-room-ge-MOST_BYTES c = λ memory disk frame.
    let a = c.args in
    let p = c.requires in
    counted_yes _ _ _ (eq-eqb _ _ c.if-c-ne0.false) (ne_eqb a.c.age cycle_limit (λ e. omega (arith, e, p.young))) (enough a.image.now a.hit a.c a.regs.now a.io.now memory disk frame a.room p.sound c.if-room-ge-MOST_BYTES.true)
