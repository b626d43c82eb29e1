-- "the run above": what `simlog` does with the input lines 140102009005 and 150000000000, up to its log.
use Rattle.std.specs.Prelude.{ℕ, List, [], ◌∷◌, ◌++◌, replicate}
use Rattle.text.specs.Bytes.{bytes}
use Rattle.text.specs.declared.Outcome.{Outcome}
use Rattle.text.specs.Questions.{first_bad}
use Rattle.text.specs.Numerals.{all_digits, value}
use Rattle.text.specs.Lines.{lines}
use Rattle.files.specs.Sizes.{image_words, data_words, disk_words, frame_bytes}
use Rattle.files.specs.MemoryFile.{read_outcome as file_reads, lines_outcome, file_words}
use Rattle.files.specs.Irq2File.{rising}
use Rattle.devices.specs.Bus.{free_drive}
use Rattle.machine.specs.State.{Machine}
use Rattle.saved.specs.Layout.{widths, fields_of}
use Rattle.saved.specs.Sound.{is_sound}
use Rattle.claim.specs.Calls.{Done, run_from, run_call}
use Rattle.runner.specs.Lab.{lab, the_image, read_outcome, read_into}
use Rattle.worked_examples.specs.Cycles.{fresh, lines_from}

-- "It reads an instruction file": those two lines, into words that hold something else.
abbrev pub input_lines : List ℕ
input_lines = bytes "140102009005\n150000000000\n"

unfoldable pub input_outcome : Outcome
unfolding file_reads lines_outcome first_bad lines all_digits
input_outcome = read_outcome the_image input_lines (replicate image_words 7)

unfoldable pub input_image : List ℕ
unfolding file_words lines value
input_image = read_into the_image input_lines (replicate image_words 7)

-- The run call: "other memories zero, no irq2 cycles, budget 100,000 cycles", the record fresh, and a log of so many bytes that hold 0x55.
unfoldable pub run_above : ℕ → Done lab
unfolding input_image lines_from run_call run_from rising is_sound fields_of widths
run_above room = run_call lab 100000 (replicate room 0x55) [] (record { image = input_image; state = fresh })

-- What it prints before the line E: T, H and L of the first cycle, 200 bytes, and T of the second, 163 bytes.
abbrev pub first_lines : List ℕ
first_lines =
    bytes "T 000 140102009005 00000000 00000009 00000005 00000000 00000000 00000000 00000000 00000000 00000000 00000000 00000000 00000000 00000000 00000000 00000000 00000000\n"
    ++ bytes "H 0 WRITE leds 00000005\n"
    ++ bytes "L 0 00000005\n"

abbrev pub printed : List ℕ
printed =
    first_lines
    ++ bytes "T 001 150000000000 00000000 00000000 00000000 00000000 00000000 00000000 00000000 00000000 00000000 00000000 00000000 00000000 00000000 00000000 00000000 00000000\n"

-- The machine after its first cycle and after its second, which halts: leds hold 5, clks is the count of cycles.
abbrev pub after_cycles : (status cycles : ℕ) → Machine
after_cycles status cycles =
    record {
      core = record { status = status; handler = 0; pc = 1; age = cycles; drive = free_drive };
      regs = replicate 13 0;
      io = replicate 8 0 ++ (cycles ∷ 5 ∷ []) ++ replicate 13 0;
      memory = replicate data_words 0;
      disk = replicate disk_words 0;
      frame = replicate frame_bytes 0;
    }

abbrev pub running : Machine
running = after_cycles 0 1

abbrev pub halted : Machine
halted = after_cycles 1 2
