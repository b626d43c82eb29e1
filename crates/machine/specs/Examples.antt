-- The definitions computed on document 01's examples, with the disk of document 02 (v).
use Rattle.std.specs.Prelude.{ℕ, ◌-◌, ◌^◌, ◌≡◌, refl, true, false, List, [], ◌∷◌, ◌++◌, map, get_or, take, drop, replicate}
use Rattle.text.specs.Bytes.{bytes}
use Rattle.text.specs.Numerals.{digits, decimal, digit_count, digit_count_up_to}
use Rattle.text.specs.Place.{put}
use Rattle.devices.specs.Timer.{timed}
use Rattle.devices.specs.Bus.{free_drive, drive_of}
use Rattle.devices.specs.Command.{taken}
use Rattle.devices.specs.Disk.{memory_served, disk_served, freed, drive_fallen, io_fallen, served, disk_stepped}
use Rattle.devices.specs.Devices.{clocked, devices_stepped}
use Rattle.isa.specs.Operations.{output, operation_of}
use Rattle.isa.specs.Registers.{io_name, io_bits, diskcmd, disksector, diskbuffer, irq2enable, irq2status, irqhandler, irqreturn, leds, monitoraddr, monitordata, monitorcmd, diskstatus}
use Rattle.trace.specs.LogLines.{register_fields, line_t, line_h, line_ld}
use Rattle.machine.specs.State.{Machine, fresh_machine, with_status, with_handler, with_pc, with_age, with_regs, io_at, put_io, with_drive}
use Rattle.machine.specs.Interrupts.{is_in, irq2_raised, interrupted}
use Rattle.machine.specs.Execution.{commanded, painted, outputted, executed, fetched_and_executed}
use Rattle.machine.specs.Cycle.{finished, at_fetch, stepped, cycle, is_command, accepts_at_fetch, accepts_command, is_stopped, is_at_limit}
use Rattle.machine.specs.Log.{change_lines, io_lines, lines_at_fetch, cycle_lines}

-- ---- the program of two lines

program : List ℕ
program = 0x140102009005 ∷ 0x150000000000 ∷ []

start : Machine
start = fresh_machine [] [] []

-- Its log is the one that document 01 prints.
first-lines : cycle_lines program [] start ≡ bytes "T 000 140102009005 00000000 00000009 00000005 00000000 00000000 00000000 00000000 00000000 00000000 00000000 00000000 00000000 00000000 00000000 00000000 00000000\nH 0 WRITE leds 00000005\nL 0 00000005\n"
unfolding program start lines_at_fetch line_t line_h line_ld change_lines io_lines register_fields at_fetch interrupted irq2_raised is_in operation_of io_bits io_name digits decimal digit_count digit_count_up_to
first-lines = refl

second-lines : cycle_lines program [] (cycle program [] start) ≡ bytes "T 001 150000000000 00000000 00000000 00000000 00000000 00000000 00000000 00000000 00000000 00000000 00000000 00000000 00000000 00000000 00000000 00000000 00000000\n"
unfolding program start lines_at_fetch line_t line_h line_ld change_lines io_lines register_fields at_fetch interrupted irq2_raised is_in operation_of io_bits io_name digits decimal digit_count digit_count_up_to stepped finished devices_stepped disk_stepped served memory_served disk_served drive_fallen io_fallen clocked taken fetched_and_executed executed outputted commanded painted timed freed put
second-lines = refl

-- "E 1 2 ..": it is halted after two cycles, which both count.
halted : (cycle program [] (cycle program [] start)).core ≡ record { status = 1; handler = 0; pc = 1; age = 2; drive = free_drive }
unfolding program start stepped finished devices_stepped disk_stepped served memory_served disk_served drive_fallen io_fallen clocked taken fetched_and_executed executed outputted commanded painted at_fetch interrupted irq2_raised is_in operation_of io_bits timed freed put
halted = refl

-- ---- single cycles

-- "jal at 4095 links 0": jal $ra, to 0x123.
linked : Machine
linked = cycle (replicate 4095 0 ++ (0x0FF001123000 ∷ [])) [] (with_regs (replicate 12 0 ++ (7 ∷ [])) (with_pc 4095 start))

jal_links : get_or linked.regs 12 7 ≡ 0
unfolding linked start stepped finished devices_stepped disk_stepped served memory_served disk_served drive_fallen io_fallen clocked taken fetched_and_executed executed outputted commanded painted at_fetch interrupted irq2_raised is_in operation_of io_bits timed freed put
jal_links = refl

jal_jumps : linked.core.pc ≡ 0x123
unfolding linked start stepped finished devices_stepped disk_stepped served memory_served disk_served drive_fallen io_fallen clocked taken fetched_and_executed executed outputted commanded painted at_fetch interrupted irq2_raised is_in operation_of io_bits timed freed put
jal_jumps = refl

-- "address 4095 read, 4096 status 3": lw $a0 from the address in $v0.
loader : ℕ → Machine
loader address = with_regs (address ∷ replicate 12 0) (fresh_machine (replicate 4095 0 ++ (0xABC ∷ [])) [] [])

read_4095 : get_or (cycle (0x104300000000 ∷ []) [] (loader 4095)).regs 1 7 ≡ 0xABC
unfolding loader stepped finished devices_stepped disk_stepped served memory_served disk_served drive_fallen io_fallen clocked taken fetched_and_executed executed outputted commanded painted at_fetch interrupted irq2_raised is_in operation_of io_bits timed freed put
read_4095 = refl

fault_4096 : (cycle (0x104300000000 ∷ []) [] (loader 4096)).core ≡ record { status = 3; handler = 0; pc = 0; age = 1; drive = free_drive }
unfolding loader stepped finished devices_stepped disk_stepped served memory_served disk_served drive_fallen io_fallen clocked taken fetched_and_executed executed outputted commanded painted at_fetch interrupted irq2_raised is_in operation_of io_bits timed freed put
fault_4096 = refl

-- "diskbuffer 3968 accepted, 3969 status 5": out of 1 to diskcmd, from imm1 and imm2.
reader : ℕ → Machine
reader buffer = put_io diskbuffer buffer (fresh_machine [] [] [])

command-accepted : (cycle (0x14010200E001 ∷ []) [] (reader 3968)).core ≡ record { status = 0; handler = 0; pc = 1; age = 1; drive = drive_of 1024 0 3968 }
unfolding reader stepped finished devices_stepped disk_stepped served memory_served disk_served drive_fallen io_fallen clocked taken fetched_and_executed executed outputted commanded painted at_fetch interrupted irq2_raised is_in operation_of io_bits timed freed put
command-accepted = refl

command-refused : (cycle (0x14010200E001 ∷ []) [] (reader 3969)).core ≡ record { status = 5; handler = 0; pc = 0; age = 1; drive = free_drive }
unfolding reader stepped finished devices_stepped disk_stepped served memory_served disk_served drive_fallen io_fallen clocked taken fetched_and_executed executed outputted commanded painted at_fetch interrupted irq2_raised is_in operation_of io_bits timed freed put
command-refused = refl

-- A disk at work: sector 1, whose words are 5, and M from 3 up, whose words are 6. With 1,017 cycles to go word 0 moves in this cycle: 1 reads it, 2 writes it.
copier : Machine
copier = put_io disksector 1 (put_io diskbuffer 3 (fresh_machine (replicate 140 6) (replicate 128 4 ++ replicate 128 5 ++ replicate 8 4) []))

at_work : ℕ → Machine
at_work command = with_drive (drive_of 1017 1 3) (put_io diskcmd command (put_io diskstatus 1 copier))

was_read : (cycle (0 ∷ []) [] (at_work 1)).memory ≡ replicate 3 6 ++ (5 ∷ []) ++ replicate 136 6
unfolding at_work copier stepped finished devices_stepped disk_stepped served memory_served disk_served drive_fallen io_fallen clocked taken fetched_and_executed executed outputted commanded painted at_fetch interrupted irq2_raised is_in operation_of io_bits timed freed put
was_read = refl

was_written : (cycle (0 ∷ []) [] (at_work 2)).disk ≡ replicate 128 4 ++ (6 ∷ replicate 127 5) ++ replicate 8 4
unfolding at_work copier stepped finished devices_stepped disk_stepped served memory_served disk_served drive_fallen io_fallen clocked taken fetched_and_executed executed outputted commanded painted at_fetch interrupted irq2_raised is_in operation_of io_bits timed freed put
was_written = refl

-- The disk's step comes after step 4: sw $zero, $imm1, $zero, $imm2, 3, 9 stores 9 at the word's place; a write takes the 9, a read overwrites it.
stored-written : (cycle (0x110102003009 ∷ []) [] (at_work 2)).disk ≡ replicate 128 4 ++ (9 ∷ replicate 127 5) ++ replicate 8 4
unfolding at_work copier stepped finished devices_stepped disk_stepped served memory_served disk_served drive_fallen io_fallen clocked taken fetched_and_executed executed outputted commanded painted at_fetch interrupted irq2_raised is_in operation_of io_bits timed freed put
stored-written = refl

stored_overwritten : (cycle (0x110102003009 ∷ []) [] (at_work 1)).memory ≡ replicate 3 6 ++ (5 ∷ []) ++ replicate 136 6
unfolding at_work copier stepped finished devices_stepped disk_stepped served memory_served disk_served drive_fallen io_fallen clocked taken fetched_and_executed executed outputted commanded painted at_fetch interrupted irq2_raised is_in operation_of io_bits timed freed put
stored_overwritten = refl

-- lw $t1, $imm1, $zero, $zero, 3, 0 still reads the 6 that stood there.
loaded-before : get_or (cycle (0x108100003000 ∷ []) [] (at_work 1)).regs 5 0 ≡ 6
unfolding at_work copier stepped finished devices_stepped disk_stepped served memory_served disk_served drive_fallen io_fallen clocked taken fetched_and_executed executed outputted commanded painted at_fetch interrupted irq2_raised is_in operation_of io_bits timed freed put
loaded-before = refl

-- A halt's cycle has its steps 5 to 7 too: its word moves, and the disk stays busy.
halted-at_work : ((cycle (0x150000000000 ∷ []) [] (at_work 1)).memory ≡ replicate 3 6 ++ (5 ∷ []) ++ replicate 136 6) × ((cycle (0x150000000000 ∷ []) [] (at_work 1)).core ≡ record { status = 1; handler = 0; pc = 0; age = 1; drive = drive_of 1016 1 3 })
unfolding at_work copier stepped finished devices_stepped disk_stepped served memory_served disk_served drive_fallen io_fallen clocked taken fetched_and_executed executed outputted commanded painted at_fetch interrupted irq2_raised is_in operation_of io_bits timed freed put
halted-at_work = (refl, refl)

-- "diskcmd ignores writes while diskstatus is 1", whatever diskbuffer holds; "stores 0 for 0 or 3"; and a command that is not accepted changes no I/O register.
-- Of these clks goes on.
ignored-goes_on : ((cycle (0x14010200E002 ∷ []) [] (put_io diskbuffer 3969 (at_work 1))).core ≡ record { status = 0; handler = 0; pc = 1; age = 1; drive = drive_of 1016 1 3 })
    × ((cycle (0x14010200E002 ∷ []) [] (put_io diskbuffer 3969 (at_work 1))).io ≡ replicate 8 0 ++ (1 ∷ replicate 5 0) ++ (1 ∷ 1 ∷ 3969 ∷ 1 ∷ replicate 5 0))
unfolding at_work copier stepped finished devices_stepped disk_stepped served memory_served disk_served drive_fallen io_fallen clocked taken fetched_and_executed executed outputted commanded painted at_fetch interrupted irq2_raised is_in operation_of io_bits timed freed put
ignored-goes_on = (refl, refl)

cleared_goes_on : ((cycle (0x14010200E003 ∷ []) [] copier).core ≡ record { status = 0; handler = 0; pc = 1; age = 1; drive = free_drive })
    × ((cycle (0x14010200E003 ∷ []) [] copier).io ≡ replicate 8 0 ++ (1 ∷ replicate 5 0) ++ (0 ∷ 1 ∷ 3 ∷ 0 ∷ replicate 5 0))
unfolding copier stepped finished devices_stepped disk_stepped served memory_served disk_served drive_fallen io_fallen clocked taken fetched_and_executed executed outputted commanded painted at_fetch interrupted irq2_raised is_in operation_of io_bits timed freed put
cleared_goes_on = (refl, refl)

refused-keeps : (cycle (0x14010200E001 ∷ []) [] (reader 3969)).io ≡ replicate 8 0 ++ (1 ∷ replicate 5 0) ++ (0 ∷ 0 ∷ 3969 ∷ 0 ∷ replicate 5 0)
unfolding reader stepped finished devices_stepped disk_stepped served memory_served disk_served drive_fallen io_fallen clocked taken fetched_and_executed executed outputted commanded painted at_fetch interrupted irq2_raised is_in operation_of io_bits timed freed put
refused-keeps = refl

-- "diskstatus = 1", and diskcmd reads as the command.
is-busy : drop 14 (cycle (0x14010200E002 ∷ []) [] copier).io ≡ 2 ∷ 1 ∷ 3 ∷ 1 ∷ replicate 5 0
unfolding copier stepped finished devices_stepped disk_stepped served memory_served disk_served drive_fallen io_fallen clocked taken fetched_and_executed executed outputted commanded painted at_fetch interrupted irq2_raised is_in operation_of io_bits timed freed put
is-busy = refl

-- "writing an odd value sets frame[monitoraddr] to monitordata": out of 3 to monitorcmd, which holds 0 after it.
painter : Machine
painter = cycle (0x140102016003 ∷ []) [] (put_io monitoraddr 2 (put_io monitordata 0x77 (fresh_machine [] [] (replicate 4 0))))

pixel : painter.frame ≡ 0 ∷ 0 ∷ 0x77 ∷ 0 ∷ []
unfolding painter stepped finished devices_stepped disk_stepped served memory_served disk_served drive_fallen io_fallen clocked taken fetched_and_executed executed outputted commanded painted at_fetch interrupted irq2_raised is_in operation_of io_bits timed freed put
pixel = refl

holds-none : io_at monitorcmd painter ≡ 0
unfolding painter stepped finished devices_stepped disk_stepped served memory_served disk_served drive_fallen io_fallen clocked taken fetched_and_executed executed outputted commanded painted at_fetch interrupted irq2_raised is_in operation_of io_bits timed freed put
holds-none = refl

-- "reti: PC = irqreturn; the handler flag falls."
returned : (cycle (0x120000000000 ∷ []) [] (with_handler 1 (put_io irqreturn 0x45 start))).core ≡ record { status = 0; handler = 0; pc = 0x45; age = 1; drive = free_drive }
unfolding start stepped finished devices_stepped disk_stepped served memory_served disk_served drive_fallen io_fallen clocked taken fetched_and_executed executed outputted commanded painted at_fetch interrupted irq2_raised is_in operation_of io_bits timed freed put
returned = refl

-- "status 5 does" log line H.
refused-logs : io_lines 0 output (record { rs = 0; rt = diskcmd; rm = 1; rd = 0; target = 0 }) (reader 3969).io ≡ bytes "H 0 WRITE diskcmd 00000001\n"
unfolding reader line_h change_lines io_lines io_bits io_name digits decimal digit_count digit_count_up_to put
refused-logs = refl

-- "If c is in the irq2 list", c being the age: clks, which a program may set, is 0 here.
irq2_by_age : io_at irq2status (cycle (0 ∷ []) (7 ∷ []) (with_age 7 start)) ≡ 1
unfolding start stepped finished devices_stepped disk_stepped served memory_served disk_served drive_fallen io_fallen clocked taken fetched_and_executed executed outputted commanded painted at_fetch interrupted irq2_raised is_in operation_of io_bits timed freed put
irq2_by_age = refl

-- The lines and an accepted command are those of the machine after steps 1 and 2: irq2 requests an interrupt in cycle 0, and its handler stands at 0x20.
requesting : Machine
requesting = put_io irq2enable 1 (put_io irqhandler 0x20 start)

line_of_handler : take 5 (cycle_lines [] (0 ∷ []) requesting) ≡ bytes "T 020"
unfolding requesting start lines_at_fetch line_t register_fields io_lines at_fetch interrupted irq2_raised is_in operation_of digits
line_of_handler = refl

accepted_in_handler : accepts_command (replicate 0x20 0 ++ (0x14010200E001 ∷ [])) (0 ∷ []) requesting ≡ true
unfolding requesting start accepts_at_fetch is_command at_fetch interrupted irq2_raised is_in operation_of
accepted_in_handler = refl

-- "when an out in it gives diskcmd low bits 1 or 2, diskstatus being 0 and diskbuffer at most 3968": 1, 2 and 6 do, 0 and 3 don't.
which_accepted : map (λ (word : ℕ). accepts_command (word ∷ []) [] (reader 3968)) (0x14010200E001 ∷ 0x14010200E002 ∷ 0x14010200E006 ∷ 0x14010200E000 ∷ 0x14010200E003 ∷ []) ≡ true ∷ true ∷ true ∷ false ∷ false ∷ []
unfolding reader accepts_at_fetch is_command at_fetch interrupted irq2_raised is_in operation_of
which_accepted = refl

none_while_busy : accepts_command (0x14010200E002 ∷ []) [] (at_work 1) ≡ false
unfolding at_work copier accepts_at_fetch is_command at_fetch interrupted irq2_raised is_in operation_of
none_while_busy = refl

not_accepted : accepts_command (0x14010200E001 ∷ []) [] (reader 3969) ≡ false
unfolding reader accepts_at_fetch is_command at_fetch interrupted irq2_raised is_in operation_of
not_accepted = refl

-- "it has stopped when its status is not 0, is at the cycle limit when its age is 2^40-1"
stopped : map (λ (status : ℕ). is_stopped (with_status status start)) (0 ∷ 1 ∷ 2 ∷ 5 ∷ []) ≡ false ∷ true ∷ true ∷ true ∷ []
unfolding start
stopped = refl

at-limit : map (λ (age : ℕ). is_at_limit (with_age age start)) (0 ∷ (2 ^ 40 - 2) ∷ (2 ^ 40 - 1) ∷ []) ≡ false ∷ false ∷ true ∷ []
unfolding start
at-limit = refl

-- ---- "Mistakes to exclude"

-- "clearing the status bits on entry": irq2 requests an interrupt in cycle 0 at PC 5, irqreturn = PC, PC = irqhandler, the handler flag rises, and irq2status is
-- still 1 after the cycle.
entered : Machine
entered = cycle (0 ∷ []) (0 ∷ []) (put_io irq2enable 1 (put_io irqhandler 0x20 (with_pc 5 start)))

entry_rises : entered.core ≡ record { status = 0; handler = 1; pc = 0x21; age = 1; drive = free_drive }
unfolding entered start stepped finished devices_stepped disk_stepped served memory_served disk_served drive_fallen io_fallen clocked taken fetched_and_executed executed outputted commanded painted at_fetch interrupted irq2_raised is_in operation_of io_bits timed freed put
entry_rises = refl

entry_returns : io_at irqreturn entered ≡ 5
unfolding entered start stepped finished devices_stepped disk_stepped served memory_served disk_served drive_fallen io_fallen clocked taken fetched_and_executed executed outputted commanded painted at_fetch interrupted irq2_raised is_in operation_of io_bits timed freed put
entry_returns = refl

entry-keeps-status : io_at irq2status entered ≡ 1
unfolding entered start stepped finished devices_stepped disk_stepped served memory_served disk_served drive_fallen io_fallen clocked taken fetched_and_executed executed outputted commanded painted at_fetch interrupted irq2_raised is_in operation_of io_bits timed freed put
entry-keeps-status = refl

-- "an L line for an unchanged out": 5 to leds that hold 5.
unchanged-leds : change_lines 0 leds 5 (put_io leds 5 start).io ≡ []
unfolding start change_lines line_ld
unchanged-leds = refl

-- "branching on rd": beq $imm2, $zero, $zero, $imm1, 0x123, 0x456 compares 0 with 0, not R[rd], which is 0x456, and jumps to R[rm], 0x123.
branch_to_rm : (cycle (0x092001123456 ∷ []) [] start).core.pc ≡ 0x123
unfolding start stepped finished devices_stepped disk_stepped served memory_served disk_served drive_fallen io_fallen clocked taken fetched_and_executed executed outputted commanded painted at_fetch interrupted irq2_raised is_in operation_of io_bits timed freed put
branch_to_rm = refl

-- "a halt or fault whose cycle isn't counted": `halted` and `fault_4096` above.
