-- What the C face promises of a run: the number returned, the record and the report written, and each lent memory after the call.
use Rattle.std.specs.Prelude.{ℕ, ◌≡◌, Bool, cond, ◌&&◌, List, [], ◌∷◌, eqb, length}
use Rattle.text.specs.Questions.{refused, unless_refused}
use Rattle.claim.specs.Calls.{Done, run_call, refuse}
use Rattle.runner.specs.Lab.{lab, record_in, standing_of}
use Rattle.simp.specs.Numbers.{is_record_length, record_of, numbers_of}

-- A report is three numbers: cycles, log bytes, reason.
abbrev pub report_numbers : ℕ
report_numbers = 3

abbrev pub is_report_length : ℕ → Bool
is_report_length n = eqb n report_numbers

abbrev pub report_of : Done lab → List ℕ
report_of d = d.cycles ∷ d.bytes ∷ d.reason ∷ []

-- The run of the record of numbers. Question 1 asks also for the 40 numbers of a record and the 3 of a report; then all is as demand 3 has it.
abbrev pub simp_run : (numbers image memory disk frame irq2 : List ℕ) (budget : ℕ) (log report : List ℕ) → Done lab
simp_run numbers image memory disk frame irq2 budget log report =
    cond (is_record_length (length numbers) && is_report_length (length report))
    (run_call lab budget log irq2 (standing_of image (record_of numbers) memory disk frame))
    (refuse lab (standing_of image (record_of numbers) memory disk frame) log (refused 1 0))

-- `simp_run` returns r, where the run d is made. "lent memory keeps its contents; a run hands its record back .. every count and reason 0": where it is
-- refused the numbers of the record are left as they were. Any count of report numbers but 3 is left too.
pub record Runs (d : Done lab) (numbers report : List ℕ) (r : ℕ) (numbers_after memory_after disk_after frame_after log_after report_after : List ℕ) : Type 0 where
  pub number : r ≡ d.outcome.number
  pub record_is : numbers_after ≡ unless_refused d.outcome (numbers_of (record_in d.lent.state)) numbers
  pub memory-is : memory_after ≡ d.lent.state.memory
  pub disk-is : disk_after ≡ d.lent.state.disk
  pub frame_is : frame_after ≡ d.lent.state.frame
  pub log_is : log_after ≡ d.log
  pub report-is : report_after ≡ cond (is_report_length (length report)) (report_of d) report
