-- The definitions computed on document 01's example and on small texts.
use Prim.Native.Char.{code}
use Rattle.std.specs.Prelude.{ℕ, ◌-◌, ◌^◌, ◌≡◌, refl, List, [], ◌∷◌, ◌++◌, map, length, set, replicate}
use Rattle.text.specs.Bytes.{bytes}
use Rattle.text.specs.Lines.{lines, unlines}
use Rattle.text.specs.Numerals.{digits, digit_count, digit_count_up_to, decimal}
use Rattle.isa.specs.Registers.{register_names, register_name, io_registers, io_name, clks, leds}
use Rattle.devices.specs.Bus.{free_drive, drive_of}
use Rattle.files.specs.Sizes.{word_digits}
use Rattle.files.specs.MemoryFile.{file_text}
use Rattle.machine.specs.declared.Core.{Core}
use Rattle.machine.specs.declared.Record.{Record}
use Rattle.outputs.specs.Cycles.{cycles_text}
use Rattle.outputs.specs.Statuses.{statuses, status_words}
use Rattle.outputs.specs.Reasons.{unfinished, fault, cause_of, reason_line}
use Rattle.outputs.specs.RecordText.{status_line, pc_line, drive_lines, core_lines, word_line, record_text}
use Rattle.outputs.specs.LogFiles.{lines_with}

-- ---- the log of document 01's example

abbrev example_log : List ℕ
example_log =
    bytes "T 000 140102009005 00000000 00000009 00000005 00000000 00000000 00000000 00000000 00000000 00000000 00000000 00000000 00000000 00000000 00000000 00000000 00000000\n"
    ++ bytes "H 0 WRITE leds 00000005\n"
    ++ bytes "L 0 00000005\n"
    ++ bytes "T 001 150000000000 00000000 00000000 00000000 00000000 00000000 00000000 00000000 00000000 00000000 00000000 00000000 00000000 00000000 00000000 00000000 00000000\n"

trace_file : lines_with (code "T") example_log
    ≡ bytes "000 140102009005 00000000 00000009 00000005 00000000 00000000 00000000 00000000 00000000 00000000 00000000 00000000 00000000 00000000 00000000 00000000 00000000\n"
    ++ bytes "001 150000000000 00000000 00000000 00000000 00000000 00000000 00000000 00000000 00000000 00000000 00000000 00000000 00000000 00000000 00000000 00000000 00000000\n"
unfolding lines_with lines unlines
trace_file = refl

register_file : lines_with (code "H") example_log ≡ bytes "0 WRITE leds 00000005\n"
unfolding lines_with lines unlines
register_file = refl

leds_file : lines_with (code "L") example_log ≡ bytes "0 00000005\n"
unfolding lines_with lines unlines
leds_file = refl

display_file : lines_with (code "D") example_log ≡ []
unfolding lines_with lines unlines
display_file = refl

-- An empty line begins with no letter; of a letter alone an empty line is left; the last LF may be missing.
short_lines : lines_with (code "T") (bytes "\nT\nLT\nT 1") ≡ bytes "\n1\n"
unfolding lines_with lines unlines
short_lines = refl

-- ---- cycles

two_cycles : cycles_text 2 ≡ bytes "2\n"
unfolding cycles_text decimal digits digit_count digit_count_up_to
two_cycles = refl

-- ---- registers

-- Thirteen lines of nine bytes.
register-bytes : length (file_text word_digits (replicate 13 0)) ≡ 117
unfolding file_text unlines digits
register-bytes = refl

two_registers : file_text word_digits (5 ∷ 0xFFFFFFFC ∷ []) ≡ bytes "00000005\nFFFFFFFC\n"
unfolding file_text unlines digits
two_registers = refl

-- ---- why a run stopped

-- A machine with this status and age, at PC 12.
abbrev stopped : ℕ → ℕ → Core
stopped status age = record { status = status; handler = 0; pc = 12; age = age; drive = free_drive }

-- Halted, and each fault.
each-status : map (λ n. reason_line (stopped n 0)) (1 ∷ 2 ∷ 3 ∷ 4 ∷ 5 ∷ [])
    ≡ bytes "stopped at PC 00C: halted\n"
    ∷ bytes "stopped at PC 00C: fault 2, the opcode is above 21\n"
    ∷ bytes "stopped at PC 00C: fault 3, the data address is above 4095\n"
    ∷ bytes "stopped at PC 00C: fault 4, the I/O register is not listed\n"
    ∷ bytes "stopped at PC 00C: fault 5, diskbuffer is above 3968 at a disk command\n"
    ∷ []
unfolding reason_line cause_of fault status_words statuses decimal digits digit_count digit_count_up_to
each-status = refl

-- Running still.
budget_spent : reason_line (stopped 0 100000) ≡ bytes "stopped at PC 00C: the budget is spent\n"
unfolding reason_line cause_of unfinished digits
budget_spent = refl

cycle-limit : reason_line (stopped 0 (2 ^ 40 - 1)) ≡ bytes "stopped at PC 00C: at the cycle limit\n"
unfolding reason_line cause_of unfinished digits
cycle-limit = refl

-- ---- a record

-- The record at the end of document 01's example.
abbrev example_record : Record
example_record =
    record {
      core = record { status = 1; handler = 0; pc = 1; age = 2; drive = free_drive };
      regs = replicate 13 0;
      io = set (set (replicate 23 0) clks 2) leds 5;
    }

example_record_lem : record_text example_record
    ≡ bytes "status 1 halted\n"
    ++ bytes "handler 0\n"
    ++ bytes "pc 001\n"
    ++ bytes "age 2\n"
    ++ bytes "left 0\n"
    ++ bytes "sector 0\n"
    ++ bytes "buffer 0\n"
    ++ bytes "$v0 00000000\n"
    ++ bytes "$a0 00000000\n"
    ++ bytes "$a1 00000000\n"
    ++ bytes "$a2 00000000\n"
    ++ bytes "$t0 00000000\n"
    ++ bytes "$t1 00000000\n"
    ++ bytes "$t2 00000000\n"
    ++ bytes "$s0 00000000\n"
    ++ bytes "$s1 00000000\n"
    ++ bytes "$s2 00000000\n"
    ++ bytes "$gp 00000000\n"
    ++ bytes "$sp 00000000\n"
    ++ bytes "$ra 00000000\n"
    ++ bytes "irq0enable 00000000\n"
    ++ bytes "irq1enable 00000000\n"
    ++ bytes "irq2enable 00000000\n"
    ++ bytes "irq0status 00000000\n"
    ++ bytes "irq1status 00000000\n"
    ++ bytes "irq2status 00000000\n"
    ++ bytes "irqhandler 00000000\n"
    ++ bytes "irqreturn 00000000\n"
    ++ bytes "clks 00000002\n"
    ++ bytes "leds 00000005\n"
    ++ bytes "display7seg 00000000\n"
    ++ bytes "timerenable 00000000\n"
    ++ bytes "timercurrent 00000000\n"
    ++ bytes "timermax 00000000\n"
    ++ bytes "diskcmd 00000000\n"
    ++ bytes "disksector 00000000\n"
    ++ bytes "diskbuffer 00000000\n"
    ++ bytes "diskstatus 00000000\n"
    ++ bytes "monitoraddr 00000000\n"
    ++ bytes "monitordata 00000000\n"
unfolding record_text core_lines drive_lines status_line pc_line word_line status_words statuses register_name register_names io_name io_registers unlines decimal digits digit_count digit_count_up_to
example_record_lem = refl

-- A busy disk: word 0 of sector 5 has moved, to place 256.
busy-disk : drive_lines (drive_of 1016 5 256) ≡ bytes "left 1016" ∷ bytes "sector 5" ∷ bytes "buffer 256" ∷ []
unfolding drive_lines decimal digits digit_count digit_count_up_to
busy-disk = refl
