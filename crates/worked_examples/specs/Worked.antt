-- Document 01's proved examples, "Together, by one computed check", in its order and words, with the disk and the saved record of document 02 (v). Where nothing else is said, a program runs from the fresh
-- record, with memories of zeros in document 01's lengths and no irq2 cycles; no record is prepared by hand.
use Rattle.std.specs.Prelude.{ℕ, ◌≡◌, refl, List, [], ◌∷◌, ◌++◌, replicate}
use Rattle.text.specs.Bytes.{bytes}
use Rattle.text.specs.Numerals.{digits, decimal, digit_count, digit_count_up_to}
use Rattle.text.specs.Questions.{accepted}
use Rattle.bitpack.specs.Bits.{bits}
use Rattle.bitpack.specs.Packed.{bytes_of}
use Rattle.isa.specs.Word.{word_of}
use Rattle.isa.specs.Operations.{operation_of, calculate, sub}
use Rattle.isa.specs.Registers.{irq0status, irq1status, irq2status, irqreturn, clks, timerenable, timercurrent, timermax, diskcmd, diskstatus}
use Rattle.summary.specs.Milliseconds.{milliseconds}
use Rattle.summary.specs.ClosingLines.{line_e}
use Rattle.bitpack.specs.Format.{bytes_of_record}
use Rattle.devices.specs.Bus.{drive_of, free_drive}
use Rattle.saved.specs.Layout.{saved_bytes}
use Rattle.claim.specs.Calls.{none}
use Rattle.runner.specs.Lab.{record_in}
use Rattle.worked_examples.specs.Cycles.{image_of, fresh_with, fresh, plain_from, lines_from, plain, lines_at, R, IO}
use Rattle.worked_examples.specs.Programs.{subtract, immediates, shifts, less, product, link, timer, disk, buffer3968, buffer3969, loads, two_lines, requests_irq2, leds_twice, equal_not_rd, unequal_rd, opcode22}
use Rattle.worked_examples.specs.RunAbove.{input_outcome, input_image, run_above, first_lines, printed, running, halted}

abbrev pub timer_registers : List ℕ
timer_registers = timermax ∷ timercurrent ∷ timerenable ∷ irq0status ∷ []

pub record Worked : Type 0 where
  -- "sub with R8, R1, R2, R2 and 2, 3 encodes as 018122002003 and gives 0xFFFFFFFC"
  pub sub_is : operation_of 1 ≡ calculate sub
  pub sub-encodes : digits 16 12 (word_of (record { op = 1; rd = 8; rs = 1; rt = 2; rm = 2; imm1 = 2; imm2 = 3 })) ≡ bytes "018122002003"
  pub sub_gives : R 8 (plain subtract 1) ≡ 0xFFFFFFFC
  -- "immediate 0x7FF stays, 0xFFF gives 0xFFFFFFFF"
  pub immediate-stays : R 7 (plain immediates 2) ≡ 0x7FF
  pub immediate_gives : R 8 (plain immediates 2) ≡ 0xFFFFFFFF
  -- "sra of 0x80000000 by 31 gives 0xFFFFFFFF, by 32 no change"
  pub sra_of : R 7 (plain shifts 3) ≡ 0x80000000
  pub sra_by_31 : R 8 (plain shifts 3) ≡ 0xFFFFFFFF
  pub sra_by_32 : R 9 (plain shifts 3) ≡ 0x80000000
  -- "blt of 0xFFFFFFFF and 0 jumps"
  pub blt_jumps : (plain less 1).core.pc ≡ 0x123
  -- "mac 0x10000×0x10000+1 gives 1"
  pub mac_of : R 7 (plain product 2) ≡ 0x10000
  pub mac_gives : R 8 (plain product 2) ≡ 1
  -- "jal at 4095 links 0": $ra holds 7 before it.
  pub jal_at : (plain link 2).core.pc ≡ 4095
  pub jal_before : R 15 (plain link 2) ≡ 7
  pub jal_links : R 15 (plain link 3) ≡ 0
  pub jal_jumps : (plain link 3).core.pc ≡ 0x123
  -- "timermax 2, timercurrent 0, enabled in cycle 5: irq0status rises at the end of 7": before cycle 5 and after it, before cycle 7 and after it.
  pub timer_to_5 : IO timer_registers (plain timer 5) ≡ 2 ∷ 0 ∷ 0 ∷ 0 ∷ []
  pub timer-from_5 : IO timer_registers (plain timer 6) ≡ 2 ∷ 1 ∷ 1 ∷ 0 ∷ []
  pub timer_to_7 : IO timer_registers (plain timer 7) ≡ 2 ∷ 2 ∷ 1 ∷ 0 ∷ []
  pub timer-from_7 : IO timer_registers (plain timer 8) ≡ 2 ∷ 0 ∷ 1 ∷ 1 ∷ []
  -- "disk command in cycle 10: diskstatus reads 1 in 1034, 0 in 1035": the lines of cycle 10, the record after it, and the lines of cycles 1034 and
  -- 1035.
  pub disk_in_10 : lines_at disk 10 1
      ≡ bytes "T 00A 14010200E001 00000000 0000000E 00000001 00000000 00000000 00000000 00000000 00000000 00000000 00000000 00000000 00000000 00000000 00000000 00000000 00000000\n"
      ++ bytes "H 10 WRITE diskcmd 00000001\n"
  pub disk-begins : (plain disk 11).core ≡ record { status = 0; handler = 0; pc = 11; age = 11; drive = drive_of 1024 0 0 }
  pub disk_in_1034 : lines_at disk 1034 2
      ≡ bytes "T 00B 137010011000 00000000 00000011 00000000 00000000 00000000 00000000 00000000 00000001 00000001 00000000 00000000 00000000 00000000 00000000 00000000 00000000\n"
      ++ bytes "H 1034 READ diskstatus 00000001\n"
      ++ bytes "T 00C 138010011000 00000000 00000011 00000000 00000000 00000000 00000000 00000000 00000001 00000001 00000000 00000000 00000000 00000000 00000000 00000000 00000000\n"
      ++ bytes "H 1035 READ diskstatus 00000000\n"
  -- "diskbuffer 3968 accepted, 3969 status 5": the command of cycle 1, of sector 0, whose words are 5, to M's last 128 words: "word k
  -- of the sector, k from 0 to 127, in the disk's step of cycle c+8(k+1)". None has moved after cycle 8, word 0 after 9, all but the last after 1024, all after 1025.
  pub buffer-accepted : (plain buffer3968 2).core ≡ record { status = 0; handler = 0; pc = 2; age = 2; drive = drive_of 1024 0 3968 }
  pub buffer_to_9 : (plain_from buffer3968 [] (fresh_with (replicate 4096 0) (replicate 128 5 ++ replicate 16256 0)) 9).memory ≡ replicate 4096 0
  pub buffer-from_9 : (plain_from buffer3968 [] (fresh_with (replicate 4096 0) (replicate 128 5 ++ replicate 16256 0)) 10).memory ≡ replicate 3968 0 ++ (5 ∷ replicate 127 0)
  pub buffer_to_1025 : (plain_from buffer3968 [] (fresh_with (replicate 4096 0) (replicate 128 5 ++ replicate 16256 0)) 1025).memory
      ≡ replicate 3968 0 ++ (replicate 127 5 ++ (0 ∷ []))
  pub buffer-filled : (plain_from buffer3968 [] (fresh_with (replicate 4096 0) (replicate 128 5 ++ replicate 16256 0)) 1026).memory
      ≡ replicate 3968 0 ++ replicate 128 5
  pub buffer-done : (plain buffer3968 1026).core.drive ≡ free_drive
  pub buffer-refused : (plain buffer3969 2).core ≡ record { status = 5; handler = 0; pc = 1; age = 2; drive = free_drive }
  pub buffer-free : IO (diskcmd ∷ diskstatus ∷ []) (plain buffer3969 2) ≡ 0 ∷ 0 ∷ []
  -- "address 4095 read, 4096 status 3": M's last word is 0xABC.
  pub address_read : R 8 (plain_from loads [] (fresh_with (replicate 4095 0 ++ (0xABC ∷ [])) (replicate 16384 0)) 2) ≡ 0xABC
  pub address-fault : (plain loads 3).core ≡ record { status = 3; handler = 0; pc = 2; age = 3; drive = free_drive }
  -- "64 cycles are 63 ms"
  pub cycles_64 : milliseconds 64 ≡ 63
  -- "the run above saves as 01 20 01 00 00 00 00 02 and on", which "now begins 02, its next seven bytes as before": its input is read; the plain machine logs the lines that document 01 prints, and makes no
  -- third cycle; so does the run call, and log bytes beyond keep their contents; with one byte too few for those lines it makes one cycle; and the
  -- record that it returns saves so.
  pub run_input : input_outcome ≡ accepted 0
  pub run-logs : lines_at two_lines 0 3 ≡ printed
  pub run_ends : plain two_lines 3 ≡ halted
  pub run_returns : run_above 370
      ≡ record {
        outcome = accepted 0;
        cycles = 2;
        bytes = 363;
        reason = 1;
        log = printed ++ replicate 7 0x55;
        lent = record { image = image_of two_lines; state = halted };
        trip-left = none;
      }
  pub run_without_room : run_above 362
      ≡ record {
        outcome = accepted 0;
        cycles = 1;
        bytes = 200;
        reason = 2;
        log = first_lines ++ replicate 162 0x55;
        lent = record { image = image_of two_lines; state = running };
        trip-left = none;
      }
  pub run-saves : saved_bytes (record_in (run_above 370).lent.state)
      ≡ (0x02 ∷ 0x20 ∷ 0x01 ∷ 0x00 ∷ 0x00 ∷ 0x00 ∷ 0x00 ∷ 0x02 ∷ [])
      ++ replicate 63 0
      ++ (0x20 ∷ 0x00 ∷ 0x00 ∷ 0x00 ∷ 0x50 ∷ [])
      ++ replicate 18 0
  pub run-closes : line_e halted.core.status halted.core.age ≡ bytes "E 1 2 2\n"
  -- "Mistakes to exclude: clearing the status bits on entry (001)": irq2 requests an interrupt in cycle 4 at PC 4, all three status bits being 1; the cycle executes the
  -- handler's first word.
  pub entry_rises : (plain_from requests_irq2 (4 ∷ []) fresh 5).core ≡ record { status = 0; handler = 1; pc = 0x21; age = 5; drive = free_drive }
  pub entry-keeps : IO (irqreturn ∷ irq0status ∷ irq1status ∷ irq2status ∷ []) (plain_from requests_irq2 (4 ∷ []) fresh 5) ≡ 4 ∷ 1 ∷ 1 ∷ 1 ∷ []
  -- "an L line for an unchanged out (002)": the lines of the second out.
  pub unchanged : lines_at leds_twice 1 1
      ≡ bytes "T 001 140102009005 00000000 00000009 00000005 00000000 00000000 00000000 00000000 00000000 00000000 00000000 00000000 00000000 00000000 00000000 00000000 00000000\n"
      ++ bytes "H 1 WRITE leds 00000005\n"
  -- "branching on rd (001)": R[rd] is 0x456; 0 and 0 are compared, and the jump is to R[rm].
  pub branch-taken : (plain equal_not_rd 1).core.pc ≡ 0x123
  pub branch_not_taken : (plain unequal_rd 1).core.pc ≡ 1
  -- "a halt or fault whose cycle isn't counted": a halt is `run_ends`; opcode 22, in age and in clks.
  pub fault-counted : (plain opcode22 1).core ≡ record { status = 2; handler = 0; pc = 0; age = 1; drive = free_drive }
  pub fault-clks : IO (clks ∷ []) (plain opcode22 1) ≡ 1 ∷ []

pub worked : Worked
unfolding plain_from lines_from input_outcome input_image run_above bytes_of_record bytes_of bits line_e milliseconds decimal digit_count digit_count_up_to
worked =
    record {
      sub_is = refl;
      sub-encodes = refl;
      sub_gives = refl;
      immediate-stays = refl;
      immediate_gives = refl;
      sra_of = refl;
      sra_by_31 = refl;
      sra_by_32 = refl;
      blt_jumps = refl;
      mac_of = refl;
      mac_gives = refl;
      jal_at = refl;
      jal_before = refl;
      jal_links = refl;
      jal_jumps = refl;
      timer_to_5 = refl;
      timer-from_5 = refl;
      timer_to_7 = refl;
      timer-from_7 = refl;
      disk_in_10 = refl;
      disk-begins = refl;
      disk_in_1034 = refl;
      buffer-accepted = refl;
      buffer_to_9 = refl;
      buffer-from_9 = refl;
      buffer_to_1025 = refl;
      buffer-filled = refl;
      buffer-done = refl;
      buffer-refused = refl;
      buffer-free = refl;
      address_read = refl;
      address-fault = refl;
      cycles_64 = refl;
      run_input = refl;
      run-logs = refl;
      run_ends = refl;
      run_returns = refl;
      run_without_room = refl;
      run-saves = refl;
      run-closes = refl;
      entry_rises = refl;
      entry-keeps = refl;
      unchanged = refl;
      branch-taken = refl;
      branch_not_taken = refl;
      fault-counted = refl;
      fault-clks = refl;
    }
