use Rattle.std.proofs.Common.{eq-eqb, ne_eqb}
use Rattle.devices.specs.Timer.{timed}
use Rattle.devices.proofs.timer.step_timer.Goals as goal

pub returns-then-io-ne1 : goal.returns-then-io-ne1
unfolding timed
returns-then-io-ne1 c = rw (ne_eqb _ _ c.if-io-ne1.true)

pub returns-then-current-io : goal.returns-then-current-io
unfolding timed
returns-then-current-io c = rw (eq-eqb _ _ c.if-io-ne1.false, eq-eqb _ _ c.if-current-io.true)

pub returns : goal.returns
unfolding timed
returns c = rw (eq-eqb _ _ c.if-io-ne1.false, ne_eqb _ _ c.if-current-io.false)
