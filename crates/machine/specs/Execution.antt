-- Steps 3 and 4 of a cycle: fetch and execute.
use Rattle.std.specs.Prelude.{ℕ, ◌+◌, ◌%◌, ◌^◌, cond, List, eqb, ltb, get_or, set}
use Rattle.isa.specs.declared.Fields.{Fields}
use Rattle.isa.specs.Word.{fields_of, sign_extended}
use Rattle.isa.specs.Operations.{Operation, operation_of, calculate, branch, jal, lw, sw, reti, input, output, halt, unknown}
use Rattle.isa.specs.Registers.{is_listed, io_bits, irqreturn, diskcmd, diskstatus, monitoraddr, monitordata, monitorcmd}
use Rattle.devices.specs.declared.Taken.{Taken}
use Rattle.devices.specs.declared.Taken.TheVariants.{Ignored, Cleared, Accepted, NoRoom}
use Rattle.devices.specs.Command.{taken, drive_after, io_after}
use Rattle.machine.specs.declared.Operands.{Operands}
use Rattle.words.specs.Words.{plus, calculated, holds}
use Rattle.machine.specs.State.{Machine, registers, put_register, io_at, put_io, with_status, with_pc, with_handler, with_drive, with_io, with_memory, with_frame}

-- ---- 3. Fetch

-- The word at PC.
abbrev pub fetched : List ℕ → Machine → ℕ
fetched image m = get_or image m.core.pc 0

-- R0 to R15 as this instruction sees them.
abbrev pub registers_of : Fields → Machine → List ℕ
registers_of f m = registers (sign_extended f.imm1) (sign_extended f.imm2) m

-- R[rs], R[rt], R[rm] and R[rd] before execution, and rd.
abbrev pub operands_from : Fields → List ℕ → Operands
operands_from f r = record { rs = get_or r f.rs 0; rt = get_or r f.rt 0; rm = get_or r f.rm 0; rd = get_or r f.rd 0; target = f.rd }

abbrev pub operands_of : Fields → Machine → Operands
operands_of f m = operands_from f (registers_of f m)

-- "Here a = R[rs]+R[rt] wrapped".
abbrev pub address : Operands → ℕ
address o = plus o.rs o.rt

-- ---- 4. Execute

-- "PC becomes (PC+1) mod 4096 unless a jump or reti set it."
abbrev pub onward : Machine → Machine
onward m = with_pc ((m.core.pc + 1) % 4096) m

-- "jump to the low 12 bits"
abbrev pub jumped : ℕ → Machine → Machine
jumped to m = with_pc (to % 4096) m

-- "halt sets status 1; a fault sets its status. Either leaves PC and, for a fault, everything else as step 3 left it".
abbrev pub ended : ℕ → Machine → Machine
ended status m = with_status status m

-- "5 diskbuffer above 3968 at a disk command, which is then not accepted"
abbrev pub proceeded : Taken → Machine → Machine
proceeded Ignored m = onward m
proceeded Cleared m = onward m
proceeded (Accepted d) m = onward m
proceeded NoRoom m = ended 5 m

-- out to diskcmd; `low` are the low bits.
unfoldable pub commanded : ℕ → Machine → Machine
commanded low m =
    let t = taken low m.io in
    proceeded t (with_drive (drive_after t m.core.drive) (with_io (io_after low t m.io) m))

-- "monitorcmd always holds 0; writing an odd value sets frame[monitoraddr] to monitordata."
unfoldable pub painted : ℕ → Machine → Machine
painted x m = cond (eqb (x % 2) 1) (with_frame (set m.frame (io_at monitoraddr m) (io_at monitordata m)) m) m

-- "out keeps the low bits of that width, with these exceptions. diskstatus ignores writes." IO[a] = x, for a that is listed.
unfoldable pub outputted : ℕ → ℕ → Machine → Machine
outputted a x m =
    cond (eqb a diskcmd) (commanded (x % 4) m)
    (onward
    (cond (eqb a diskstatus) m
    (cond (eqb a monitorcmd) (painted x m)
    (put_io a (x % 2 ^ io_bits a) m))))

-- What each operation does; "3 data address above 4095, 4 I/O number not listed", "2 opcode above 21".
unfoldable pub executed : Operation → Operands → Machine → Machine
executed (calculate k) o m = onward (put_register o.target (calculated k o.rs o.rt o.rm) m)
executed (branch k) o m = cond (holds k o.rs o.rt) (jumped o.rm m) (onward m)
executed jal o m = jumped o.rm (put_register o.target ((m.core.pc + 1) % 4096) m)
executed lw o m =
    cond (ltb (address o) 4096) (onward (put_register o.target (plus (get_or m.memory (address o) 0) o.rm) m)) (ended 3 m)
executed sw o m = cond (ltb (address o) 4096) (onward (with_memory (set m.memory (address o) (plus o.rm o.rd)) m)) (ended 3 m)
executed reti o m = with_handler 0 (with_pc (io_at irqreturn m) m)
executed input o m = cond (is_listed (address o)) (onward (put_register o.target (io_at (address o) m) m)) (ended 4 m)
executed output o m = cond (is_listed (address o)) (outputted (address o) o.rm m) (ended 4 m)
executed halt o m = ended 1 m
executed unknown o m = ended 2 m

-- The word at PC is fetched and executed.
unfoldable pub fetched_and_executed : List ℕ → Machine → Machine
fetched_and_executed image m =
    let f = fields_of (fetched image m) in
    executed (operation_of f.op) (operands_of f m) m
