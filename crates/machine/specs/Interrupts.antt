-- Steps 1 and 2 of a cycle.
use Rattle.std.specs.Prelude.{ℕ, Bool, false, cond, ◌&&◌, ◌||◌, List, [], ◌∷◌, eqb, get_or}
use Rattle.isa.specs.Registers.{irq0enable, irq1enable, irq2enable, irq0status, irq1status, irq2status, irqhandler, irqreturn}
use Rattle.machine.specs.State.{Machine, io_at, put_io, with_pc, with_handler}

-- The cycle c is in the list.
unfoldable pub is_in : ℕ → List ℕ → Bool
is_in c [] = false
is_in c (x ∷ xs) = eqb c x || is_in c xs

-- "1. If c is in the irq2 list, irq2status becomes 1." `hit`: c is in it.
unfoldable pub irq2_raised : Bool → Machine → Machine
irq2_raised hit m = cond hit (put_io irq2status 1 m) m

-- An enable and its status "are both 1".
abbrev pub are_both : ℕ → ℕ → List ℕ → Bool
are_both enable status io = eqb (get_or io enable 0) 1 && eqb (get_or io status 0) 1

-- "some enable and its status are both 1"
abbrev pub is_requested : List ℕ → Bool
is_requested io = are_both irq0enable irq0status io || are_both irq1enable irq1status io || are_both irq2enable irq2status io

-- "2. If some enable and its status are both 1 and the handler flag is down: irqreturn = PC, PC = irqhandler, the flag rises."
unfoldable pub interrupted : Machine → Machine
interrupted m =
    cond (is_requested m.io && eqb m.core.handler 0) (with_handler 1 (with_pc (io_at irqhandler m) (put_io irqreturn m.core.pc m))) m
