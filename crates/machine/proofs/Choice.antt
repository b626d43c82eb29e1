-- A choice between two machines. Assumes nothing.
use mathlib.Core.Bool.{Bool, true, false, cond}
use Rattle.devices.specs.declared.Taken.{Taken}
use Rattle.devices.specs.declared.Taken.TheVariants.{Ignored, Cleared, Accepted, NoRoom}
use Rattle.machine.specs.State.{Machine}
use Rattle.machine.specs.Execution.{onward, ended, proceeded}

-- What holds of both holds of the one that is chosen.
pub either : (P : Machine → Type 0) (t : Bool) {a b : Machine} → P a → P b → P (cond t a b)
either P true p q = p
either P false p q = q

-- What holds of a machine that goes on and of one that ends holds after an out to diskcmd.
pub proceeds : (P : Machine → Type 0) (t : Taken) (m : Machine) → P (onward m) → P (ended 5 m) → P (proceeded t m)
proceeds P Ignored m p q = p
proceeds P Cleared m p q = p
proceeds P (Accepted d) m p q = p
proceeds P NoRoom m p q = q
