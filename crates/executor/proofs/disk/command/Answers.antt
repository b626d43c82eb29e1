use mathlib.Core.Path.{refl}
use Rattle.devices.specs.declared.Taken.TheVariants.{Ignored, Cleared, Accepted, NoRoom}
use Rattle.executor.proofs.CommandLaws.{commanded-is}
use Rattle.executor.proofs.disk.command.Goals as goal

pub returns-in-Ignored : goal.returns-in-Ignored
returns-in-Ignored c = λ regs memory disk frame.
    let a = c.args in
    let w = c.take_command.ensures in
    commanded-is a.low a.c _ _ Ignored regs a.io.now _ memory disk frame w.0 w.1 c.in-Ignored.is (rw c.onward.ensures refl)

pub returns-in-Cleared : goal.returns-in-Cleared
returns-in-Cleared c = λ regs memory disk frame.
    let a = c.args in
    let w = c.take_command.ensures in
    commanded-is a.low a.c _ _ Cleared regs a.io.now _ memory disk frame w.0 w.1 c.in-Cleared.is (rw c.onward-in-Cleared.ensures refl)

pub returns-in-Accepted : goal.returns-in-Accepted
returns-in-Accepted c = λ regs memory disk frame.
    let a = c.args in
    let w = c.take_command.ensures in
    commanded-is a.low a.c _ _ (Accepted c.in-Accepted.d) regs a.io.now _ memory disk frame w.0 w.1 c.in-Accepted.is (rw (c.onward-in-Accepted.ensures, c.with_drive.ensures) refl)

pub returns-in-NoRoom : goal.returns-in-NoRoom
returns-in-NoRoom c = λ regs memory disk frame.
    let a = c.args in
    let w = c.take_command.ensures in
    commanded-is a.low a.c _ _ NoRoom regs a.io.now _ memory disk frame w.0 w.1 c.in-NoRoom.is (rw c.end.ensures refl)
