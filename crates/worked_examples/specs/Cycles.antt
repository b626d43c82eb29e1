-- Whole cycles of the plain machine on a program of instruction words: what it is after n of them, and what they log.
use Rattle.std.specs.Prelude.{ℕ, ◌-◌, List, [], ◌++◌, map, length, get_or, replicate}
use Rattle.text.specs.Numerals.{digits, decimal, digit_count, digit_count_up_to}
use Rattle.text.specs.Place.{put}
use Rattle.files.specs.Sizes.{image_words, data_words, disk_words, frame_bytes}
use Rattle.devices.specs.Timer.{timed}
use Rattle.devices.specs.Command.{taken}
use Rattle.devices.specs.Disk.{memory_served, disk_served, freed, drive_fallen, io_fallen, served, disk_stepped}
use Rattle.devices.specs.Devices.{clocked, devices_stepped}
use Rattle.isa.specs.Operations.{operation_of}
use Rattle.isa.specs.Registers.{io_bits, io_name}
use Rattle.trace.specs.LogLines.{register_fields, line_t, line_h, line_ld}
use Rattle.machine.specs.State.{Machine, fresh_machine, registers, io_at}
use Rattle.machine.specs.Interrupts.{is_in, irq2_raised, interrupted}
use Rattle.machine.specs.Execution.{commanded, painted, outputted, executed, fetched_and_executed}
use Rattle.machine.specs.Cycle.{finished, at_fetch, stepped}
use Rattle.machine.specs.Log.{change_lines, io_lines, lines_at_fetch}
use Rattle.claim.specs.Plain.{onward, said, after, log_after}
use Rattle.runner.specs.Lab.{simp, code_of}

-- The image of a program: its words, then zeros, 4,096 words in all.
abbrev pub image_of : List ℕ → List ℕ
image_of program = program ++ replicate (image_words - length program) 0

-- The fresh record, with a data memory and a disk; the frame is zero.
abbrev pub fresh_with : List ℕ → List ℕ → Machine
fresh_with memory disk = fresh_machine memory disk (replicate frame_bytes 0)

-- The same with memories of zeros, of document 01's lengths.
abbrev pub fresh : Machine
fresh = fresh_with (replicate data_words 0) (replicate disk_words 0)

-- The plain machine, n cycles after m, with an irq2 list. The line names what a cycle has to open.
unfoldable pub plain_from : (program irq2 : List ℕ) → Machine → ℕ → Machine
unfolding after onward stepped finished devices_stepped disk_stepped served memory_served disk_served drive_fallen io_fallen clocked taken fetched_and_executed executed outputted commanded painted at_fetch interrupted irq2_raised is_in operation_of io_bits timed freed put
plain_from program irq2 m n = after simp (code_of (image_of program) irq2) n m

-- The lines of those n cycles.
unfoldable pub lines_from : (program irq2 : List ℕ) → Machine → ℕ → List ℕ
unfolding plain_from log_after said lines_at_fetch line_t line_h line_ld change_lines io_lines register_fields io_name digits decimal digit_count digit_count_up_to
lines_from program irq2 m n = log_after simp (code_of (image_of program) irq2) n m

-- From the fresh record, memories of zeros and no irq2 cycles: the machine after n cycles, and the lines of n cycles from cycle c on.
abbrev pub plain : List ℕ → ℕ → Machine
plain program n = plain_from program [] fresh n

abbrev pub lines_at : (program : List ℕ) (c n : ℕ) → List ℕ
lines_at program c n = lines_from program [] (plain program c) n

-- R[n], of R3 to R15.
abbrev pub R : ℕ → Machine → ℕ
R n m = get_or (registers 0 0 m) n 0

-- I/O registers, by their numbers.
abbrev pub IO : List ℕ → Machine → List ℕ
IO ns m = map (λ n. io_at n m) ns
