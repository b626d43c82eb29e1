-- Run calls and lists of calls, computed: the order of the reasons, the cycle limit, refusals, a trip between two runs, and a list that is cut inside a sector.
use Rattle.std.specs.Prelude.{ℕ, ◌-◌, ◌^◌, ◌≡◌, refl, true, false, List, [], ◌∷◌, ◌++◌, map, replicate}
use Rattle.std.proofs.Common.{arith}
use Rattle.text.specs.Lines.{unlines}
use Rattle.text.specs.Numerals.{digits}
use Rattle.text.specs.Questions.{refused}
use Rattle.files.specs.MemoryFile.{write_outcome as file_writes, file_text}
use Rattle.files.specs.Irq2File.{rises_after, rising}
use Rattle.bitpack.specs.Bits.{bits}
use Rattle.bitpack.specs.Packed.{bytes_of, number_of}
use Rattle.isa.specs.Registers.{irq2status}
use Rattle.machine.specs.State.{Machine, with_status, with_age, with_memory, with_disk, with_frame}
use Rattle.machine.specs.Cycle.{is_command, accepts_at_fetch}
use Rattle.bitpack.specs.Format.{bytes_of_record, fields_in}
use Rattle.devices.specs.Bus.{drive_of}
use Rattle.saved.specs.Layout.{widths, fields_of, record_of}
use Rattle.saved.specs.Sound.{is_sound}
use Rattle.saved.specs.Calls.{fresh_record, format_of}
use Rattle.claim.specs.Calls.{Call, run, run_other, trip, Done, run_from, run_call, trip_call, session, total, joined, final}
use Rattle.runner.specs.Lab.{Standing, lab, code_of, the_record, the_data}
use Rattle.worked_examples.specs.Cycles.{image_of, fresh_with, fresh, plain, plain_from, lines_from, IO}
use Rattle.worked_examples.specs.Programs.{disk, transfer, two_lines}
use Rattle.worked_examples.specs.RunAbove.{printed, halted}

-- A run of a program by a machine, with a log of so many bytes that hold 0x55.
unfoldable pub run_of : (budget room : ℕ) (irq2 program : List ℕ) → Machine → Done lab
unfolding lines_from run_call run_from rising rises_after is_sound fields_of widths
run_of budget room irq2 program m = run_call lab budget (replicate room 0x55) irq2 (record { image = image_of program; state = m })

-- ---- reasons

abbrev limit : ℕ
limit = 2 ^ 40 - 1

-- "status not 0 (reason 1); age = 2^40-1 (reason 3); budget spent (reason 0); the cycle's lines don't fit the rest of the log (reason 2)": in this
-- order; 163 bytes are enough for a T line, and 162 are not.
reasons : map (λ (d : Done lab). d.reason)
    (run_of 0 0 [] [] (with_status 1 (with_age limit fresh))
    ∷ run_of 0 0 [] [] (with_age limit fresh)
    ∷ run_of 0 0 [] [] fresh
    ∷ run_of 1 0 [] [] fresh
    ∷ run_of 1 162 [] [] fresh
    ∷ run_of 1 163 [] [] fresh
    ∷ [])
    ≡ 1 ∷ 3 ∷ 0 ∷ 2 ∷ 2 ∷ 0 ∷ []
unfolding run_of
reasons = refl

-- The last cycle that can be made, which is in the irq2 list; the list's later cycles are never met.
last_run : Done lab
unfolding run_of
last_run = run_of 9 163 ((2 ^ 40 - 2) ∷ limit ∷ (2 ^ 64 - 1) ∷ []) [] (with_age (2 ^ 40 - 2) fresh)

last-cycle : last_run.cycles ∷ last_run.bytes ∷ last_run.reason ∷ last_run.lent.state.core.age ∷ IO (irq2status ∷ []) last_run.lent.state
    ≡ 1 ∷ 163 ∷ 3 ∷ limit ∷ 1 ∷ []
unfolding last_run
last-cycle = refl

-- "and makes no cycle after either": the plain machine at the limit; one that has stopped is Worked's `run_ends`.
stays-at-limit : (plain_from [] [] (with_age limit fresh) 1).core.age ≡ limit
unfolding plain_from
stays-at-limit = refl

-- ---- refusals

-- "are the lent lengths those above? 1", then "irq2 list strictly rising? 12. Record sound? 13": each asked of a loan that would get the later ones too.
refusals : map (λ (d : Done lab). d.outcome)
    (run_of 1 9 (3 ∷ 3 ∷ []) (replicate 4097 0) (with_status 6 fresh)
    ∷ run_of 1 9 (3 ∷ 3 ∷ []) [] (with_status 6 (with_memory [] fresh))
    ∷ run_of 1 9 (3 ∷ 3 ∷ []) [] (with_status 6 (with_disk [] fresh))
    ∷ run_of 1 9 (3 ∷ 3 ∷ []) [] (with_status 6 (with_frame [] fresh))
    ∷ run_of 1 9 (3 ∷ 3 ∷ []) [] (with_status 6 fresh)
    ∷ run_of 1 9 [] [] (with_status 6 fresh)
    ∷ [])
    ≡ refused 1 0 ∷ refused 1 0 ∷ refused 1 0 ∷ refused 1 0 ∷ refused 12 0 ∷ refused 13 0 ∷ []
unfolding run_of
refusals = refl

-- ---- the disk

-- "A disk command is accepted in cycle c"; "The disk is free when diskstatus is 0": the command of cycle 10.
disk-accepted : map (λ (n : ℕ). lab.accepts (code_of (image_of disk) []) (plain disk n)) (9 ∷ 10 ∷ 11 ∷ []) ≡ false ∷ true ∷ false ∷ []
unfolding plain_from accepts_at_fetch is_command
disk-accepted = refl

disk-busy : map (λ (n : ℕ). lab.is_busy (plain disk n)) (10 ∷ 11 ∷ 1034 ∷ 1035 ∷ []) ≡ false ∷ true ∷ true ∷ false ∷ []
unfolding plain_from
disk-busy = refl

-- ---- a list of calls

abbrev start : Standing
start = record { image = image_of two_lines; state = fresh }

-- A run with room for one cycle; the record saved and read back; the data memory written without room; a run whose irq2 list doesn't rise; and a run
-- to the end.
calls : List (Call lab)
unfolding rising rises_after
calls =
    run 1 (replicate 200 0)
    ∷ trip the_record (replicate 94 0) fresh_record tt
    ∷ trip the_data [] (replicate 4096 7) refl
    ∷ run_other 5 [] (3 ∷ 3 ∷ []) start (λ e. absurd (omega arith))
    ∷ run 9 (replicate 163 0)
    ∷ []

done : List (Done lab)
unfolding calls session run_of trip_call bytes_of_record format_of fields_in record_of bytes_of number_of bits file_writes file_text unlines digits
done = session lab [] start calls

outcome : map (λ (d : Done lab). d.outcome.number) done ≡ 0 ∷ 0 ∷ 15 ∷ 12 ∷ 0 ∷ []
unfolding done
outcome = refl

-- "as many cycles as the runs reported in total"; the joined logs are the plain machine's, and so is what stands.
in_total : total lab done ≡ 2
unfolding done total
in_total = refl

logs : joined lab done ≡ printed
unfolding done joined
logs = refl

stands : (final lab start calls done).state ≡ halted
unfolding done final
stands = refl

-- ---- a list of calls that is cut inside a sector

-- Sector 1 holds 9s. Its command is accepted in cycle 2, so word 0 moves in cycle 10 and word 1 in cycle 18.
abbrev reading : Standing
reading = record { image = image_of transfer; state = fresh_with (replicate 4096 0) (replicate 128 0 ++ (replicate 128 9 ++ replicate 16128 0)) }

-- A run of 14 cycles; the record saved and read back; a run whose log has room for 5 cycles.
cut : List (Call lab)
cut = run 14 (replicate 3000 0) ∷ trip the_record (replicate 94 0) fresh_record tt ∷ run 100 (replicate 817 0) ∷ []

cut_done : List (Done lab)
unfolding cut session run_of trip_call bytes_of_record format_of fields_in record_of bytes_of number_of bits
cut_done = session lab [] reading cut

-- All are accepted; the runs make 14 and 5 cycles, the first until its budget is spent, the second until its log is full.
cut_runs : map (λ (d : Done lab). d.outcome.number ∷ d.cycles ∷ d.reason ∷ []) cut_done ≡ (0 ∷ 14 ∷ 0 ∷ []) ∷ (0 ∷ 0 ∷ 0 ∷ []) ∷ (0 ∷ 5 ∷ 2 ∷ []) ∷ []
unfolding cut_done
cut_runs = refl

-- What is left of the command, and the sector and the buffer that it took: after the first run, read back, and at the end.
cut_drives : map (λ (d : Done lab). d.lent.state.core.drive) cut_done ≡ drive_of 1013 1 100 ∷ drive_of 1013 1 100 ∷ drive_of 1008 1 100 ∷ []
unfolding cut_done
cut_drives = refl

-- Word 0 has moved before the cut, word 1 after it; so it is with the plain machine after 19 cycles, and with its log.
cut-memory : (final lab reading cut cut_done).state.memory ≡ replicate 100 0 ++ (9 ∷ 9 ∷ replicate 3994 0)
unfolding cut_done final
cut-memory = refl

cut_stands : (final lab reading cut cut_done).state ≡ plain_from transfer [] reading.state 19
unfolding cut_done final plain_from
cut_stands = refl

cut-logs : joined lab cut_done ≡ lines_from transfer [] reading.state 19
unfolding cut_done joined lines_from
cut-logs = refl
