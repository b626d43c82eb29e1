-- One cycle of the plain machine: its seven steps.
use Rattle.std.specs.Prelude.{ℕ, ◌+◌, ◌-◌, ◌%◌, ◌^◌, Bool, true, false, not, ◌&&◌, List, eqb}
use Rattle.devices.specs.Command.{is_free, is_read_or_write, has_room}
use Rattle.devices.specs.Devices.{devices_stepped}
use Rattle.isa.specs.Word.{fields_of}
use Rattle.isa.specs.Operations.{Operation, operation_of, calculate, branch, jal, lw, sw, reti, input, output, halt, unknown}
use Rattle.isa.specs.Registers.{diskcmd}
use Rattle.machine.specs.declared.Operands.{Operands}
use Rattle.machine.specs.State.{Machine, bus_of, with_bus, with_age}
use Rattle.machine.specs.Interrupts.{is_in, irq2_raised, interrupted}
use Rattle.machine.specs.Execution.{fetched, operands_of, address, fetched_and_executed}

-- "5. Timer ..", "6. If left was above 0 when the cycle began ..", "7. clks + 1, wrapping", which are the devices', and "age + 1"; `began` is left when
-- the cycle began. A halt or a fault has them too: "steps 5 to 7 still follow".
unfoldable pub finished : ℕ → Machine → Machine
finished began m = with_age (m.core.age + 1) (with_bus (devices_stepped began (bus_of m)) m)

-- The machine as step 3 finds it.
unfoldable pub at_fetch : Bool → Machine → Machine
at_fetch hit m = interrupted (irq2_raised hit m)

-- The seven steps.
unfoldable pub stepped : List ℕ → Bool → Machine → Machine
stepped image hit m = finished m.core.drive.left (fetched_and_executed image (at_fetch hit m))

-- "One cycle of the plain machine, c being the age before it".
abbrev pub cycle : List ℕ → List ℕ → Machine → Machine
cycle image irq2 m = stepped image (is_in m.core.age irq2) m

-- The operation is `out`.
abbrev pub is_output : Operation → Bool
is_output (calculate k) = false
is_output (branch k) = false
is_output jal = false
is_output lw = false
is_output sw = false
is_output reti = false
is_output input = false
is_output output = true
is_output halt = false
is_output unknown = false

-- "A disk command is accepted in cycle c when an out in it gives diskcmd low bits 1 or 2, diskstatus being 0 and diskbuffer at most 3968": of
-- an instruction that finds the machine so at step 3, and of the cycle that m makes next.
unfoldable pub is_command : Operation → Operands → Machine → Bool
is_command k o m = is_output k && eqb (address o) diskcmd && is_read_or_write (o.rm % 4) && is_free m.io && has_room m.io

unfoldable pub accepts_at_fetch : List ℕ → Machine → Bool
accepts_at_fetch image m =
    let f = fields_of (fetched image m) in
    is_command (operation_of f.op) (operands_of f m) m

-- The command: "low bits 1 or 2" of what the instruction at step 3 gives.
abbrev pub command_at_fetch : List ℕ → Machine → ℕ
command_at_fetch image m = (operands_of (fields_of (fetched image m)) m).rm % 4

abbrev pub accepts_command : List ℕ → List ℕ → Machine → Bool
accepts_command image irq2 m = accepts_at_fetch image (at_fetch (is_in m.core.age irq2) m)

-- "it has stopped when its status is not 0, is at the cycle limit when its age is 2^40-1, and makes no cycle after either."
abbrev pub is_stopped : Machine → Bool
is_stopped m = not (eqb m.core.status 0)

abbrev pub is_at_limit : Machine → Bool
is_at_limit m = eqb m.core.age (2 ^ 40 - 1)
