use Rattle.std.proofs.Common.{refl, arith, eq-eqb, ne_eqb}
use Rattle.devices.specs.Command.{taken}
use Rattle.devices.proofs.MoveLaws.{no_command}
use Rattle.devices.proofs.command.take_command.Goals as goal

pub returns-then-io-ne0 : goal.returns-then-io-ne0
unfolding taken
returns-then-io-ne0 c = rw (ne_eqb _ _ c.if-io-ne0.true) (refl, refl)

pub returns-in-1 : goal.returns-in-1
unfolding taken
returns-in-1 c =
    let e = c.accept.ensures in
    rw (eq-eqb _ _ c.if-io-ne0.false, c.in-1.is) e

pub returns-in-2 : goal.returns-in-2
unfolding taken
returns-in-2 c =
    let e = c.accept-in-2.ensures in
    rw (eq-eqb _ _ c.if-io-ne0.false, c.in-2.is) e

pub returns-in_default : goal.returns-in_default
unfolding taken
returns-in_default c =
    rw (eq-eqb _ _ c.if-io-ne0.false, no_command c.args.low (λ e. omega arith) (λ e. omega arith)) (refl, refl)
