-- A pixel that is written. Assumes nothing.
use Prim.Native.Nat.{ℕ, ◌%◌}
use mathlib.Core.Path.{◌≡◌, refl}
use mathlib.Core.Bool.{Bool, true, false, cond}
use mathlib.Core.List.{List}
use lib.Dec.{eqb}
use lib.ListN.{get_or, set}
use Rattle.isa.specs.Registers.{monitoraddr, monitordata}
use Rattle.machine.specs.declared.Core.{Core}
use Rattle.executor.specs.Lent.{packed}
use Rattle.machine.specs.Execution.{painted}

-- The frame after a write to monitorcmd.
pub painted-is : (x : ℕ) (c : Core) (regs io memory disk frame after : List ℕ)
    → after ≡ cond (eqb (x % 2) 1) (set frame (get_or io monitoraddr 0) (get_or io monitordata 0)) frame
    → packed c regs io memory disk after ≡ painted x (packed c regs io memory disk frame)
unfolding painted
painted-is x c regs io memory disk frame after e = rw e (go (eqb (x % 2) 1))
  where
    pixel : List ℕ
    pixel = set frame (get_or io monitoraddr 0) (get_or io monitordata 0)

    go : (t : Bool) → packed c regs io memory disk (cond t pixel frame) ≡ cond t (packed c regs io memory disk pixel) (packed c regs io memory disk frame)
    go true = refl
    go false = refl
