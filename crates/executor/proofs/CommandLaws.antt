-- An out to diskcmd. Assumes nothing.
use Prim.Native.Nat.{ℕ}
use mathlib.Core.Path.{◌≡◌}
use mathlib.Core.List.{List}
use Rattle.devices.specs.declared.Taken.{Taken}
use Rattle.devices.specs.Command.{taken, drive_after, io_after}
use Rattle.machine.specs.declared.Core.{Core}
use Rattle.machine.specs.State.{with_drive, with_io}
use Rattle.machine.specs.Execution.{proceeded, commanded}
use Rattle.executor.specs.Lent.{packed}

-- What becomes of it, u, being known.
pub commanded-is : (low : ℕ) (c r : Core) (t u : Taken) (regs io after memory disk frame : List ℕ) → t ≡ taken low io → after ≡ io_after low t io → t ≡ u
    → packed r regs (io_after low u io) memory disk frame ≡ proceeded u (with_drive (drive_after u c.drive) (with_io (io_after low u io) (packed c regs io memory disk frame)))
    → packed r regs after memory disk frame ≡ commanded low (packed c regs io memory disk frame)
unfolding commanded
commanded-is low c r t u regs io after memory disk frame e a told is = rw (a, ← e, told) is
