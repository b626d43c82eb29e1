-- The plain machine's state: the record and the three memories.
use Rattle.std.specs.Prelude.{ℕ, ◌-◌, cond, List, ◌∷◌, ltb, get_or, set, replicate}
use Rattle.devices.specs.declared.Drive.{Drive}
use Rattle.devices.specs.Bus.{Bus, bus, free_drive}
use Rattle.machine.specs.declared.Core.{Core}

-- "The record: status, handler flag, PC, age (cycles done, 40 bits), left (disk cycles to go), R3 to R15, the I/O registers", "after `left` come that
-- sector (7 bits) and buffer (12)": its scalars, its registers and its I/O registers by number; and the data memory, the disk and the frame.
pub record Machine : Type 0 where
  pub core : Core
  pub regs : List ℕ
  pub io : List ℕ
  pub memory : List ℕ
  pub disk : List ℕ
  pub frame : List ℕ

-- "Fresh means all zero."
abbrev pub fresh_core : Core
fresh_core = record { status = 0; handler = 0; pc = 0; age = 0; drive = free_drive }

abbrev pub fresh_machine : List ℕ → List ℕ → List ℕ → Machine
fresh_machine memory disk frame =
    record { core = fresh_core; regs = replicate 13 0; io = replicate 23 0; memory = memory; disk = disk; frame = frame }

-- ---- one part changed

abbrev pub core_status : ℕ → Core → Core
core_status x c = record { status = x; handler = c.handler; pc = c.pc; age = c.age; drive = c.drive }

abbrev pub core_handler : ℕ → Core → Core
core_handler x c = record { status = c.status; handler = x; pc = c.pc; age = c.age; drive = c.drive }

abbrev pub core_pc : ℕ → Core → Core
core_pc x c = record { status = c.status; handler = c.handler; pc = x; age = c.age; drive = c.drive }

abbrev pub core_age : ℕ → Core → Core
core_age x c = record { status = c.status; handler = c.handler; pc = c.pc; age = x; drive = c.drive }

abbrev pub core_drive : Drive → Core → Core
core_drive x c = record { status = c.status; handler = c.handler; pc = c.pc; age = c.age; drive = x }

abbrev pub with_core : Core → Machine → Machine
with_core x m = record { core = x; regs = m.regs; io = m.io; memory = m.memory; disk = m.disk; frame = m.frame }

abbrev pub with_status : ℕ → Machine → Machine
with_status x m = with_core (core_status x m.core) m

abbrev pub with_handler : ℕ → Machine → Machine
with_handler x m = with_core (core_handler x m.core) m

abbrev pub with_pc : ℕ → Machine → Machine
with_pc x m = with_core (core_pc x m.core) m

abbrev pub with_age : ℕ → Machine → Machine
with_age x m = with_core (core_age x m.core) m

abbrev pub with_drive : Drive → Machine → Machine
with_drive x m = with_core (core_drive x m.core) m

abbrev pub with_regs : List ℕ → Machine → Machine
with_regs x m = record { core = m.core; regs = x; io = m.io; memory = m.memory; disk = m.disk; frame = m.frame }

abbrev pub with_io : List ℕ → Machine → Machine
with_io x m = record { core = m.core; regs = m.regs; io = x; memory = m.memory; disk = m.disk; frame = m.frame }

abbrev pub with_memory : List ℕ → Machine → Machine
with_memory x m = record { core = m.core; regs = m.regs; io = m.io; memory = x; disk = m.disk; frame = m.frame }

abbrev pub with_disk : List ℕ → Machine → Machine
with_disk x m = record { core = m.core; regs = m.regs; io = m.io; memory = m.memory; disk = x; frame = m.frame }

abbrev pub with_frame : List ℕ → Machine → Machine
with_frame x m = record { core = m.core; regs = m.regs; io = m.io; memory = m.memory; disk = m.disk; frame = x }

-- ---- what the devices act on

abbrev pub bus_of : Machine → Bus
bus_of m = bus m.core.drive m.io m.memory m.disk

abbrev pub with_bus : Bus → Machine → Machine
with_bus b m = record { core = core_drive b.drive m.core; regs = m.regs; io = b.io; memory = b.memory; disk = b.disk; frame = m.frame }

-- ---- registers

-- R0 to R15: "R0 is 0. R1 and R2 are the two immediates."
abbrev pub registers : ℕ → ℕ → Machine → List ℕ
registers imm1 imm2 m = 0 ∷ imm1 ∷ imm2 ∷ m.regs

-- R[n] becomes x. "Writes to these three change nothing."
abbrev pub written : ℕ → ℕ → List ℕ → List ℕ
written n x regs = cond (ltb n 3) regs (set regs (n - 3) x)

abbrev pub put_register : ℕ → ℕ → Machine → Machine
put_register n x m = with_regs (written n x m.regs) m

-- IO[n], and IO[n] set to x.
abbrev pub io_at : ℕ → Machine → ℕ
io_at n m = get_or m.io n 0

abbrev pub put_io : ℕ → ℕ → Machine → Machine
put_io n x m = with_io (set m.io n x) m
