-- What a run promises, in the numbers of the C face. Assumes nothing.
use Prim.Native.Nat.{ℕ}
use mathlib.Core.Path.{◌≡◌, refl, sym, ◌∙◌, ap}
use mathlib.Core.Bool.{Bool, true, false, cond, ◌&&◌}
use mathlib.Core.Logic.{inl, inr}
use mathlib.Core.List.{List, [], ◌∷◌}
use lib.Dec.{eqb}
use lib.ListN.{length}
use Rattle.text.specs.declared.Outcome.{Outcome}
use Rattle.text.specs.Questions.{accepted, refused, first_no, unless_refused}
use Rattle.files.specs.Irq2File.{rising}
use Rattle.machine.specs.declared.Record.{Record}
use Rattle.saved.specs.Sound.{is_sound}
use Rattle.claim.specs.Calls.{Done, run_call, refuse}
use Rattle.runner.specs.Lab.{lab, Standing, record_in, standing_of, are_lengths}
use Rattle.simp.specs.Numbers.{record_numbers, record_of, numbers_of, StandsFor}
use Rattle.simp.specs.Runs.{report_numbers, report_of, simp_run, Runs}

-- ---- runs that leave the same numbers

-- The numbers of the record that a run leaves; where it is refused, those that stood before.
abbrev leaves : Done lab → List ℕ → List ℕ
leaves d numbers = unless_refused d.outcome (numbers_of (record_in d.lent.state)) numbers

-- Two runs tell the same and leave the same numbers and memories. (Their records may differ, where both are refused.)
record Alike (d e : Done lab) : Type 0 where
  outcome : d.outcome ≡ e.outcome
  numbers : (old : List ℕ) → leaves d old ≡ leaves e old
  memory : d.lent.state.memory ≡ e.lent.state.memory
  disk : d.lent.state.disk ≡ e.lent.state.disk
  frame : d.lent.state.frame ≡ e.lent.state.frame
  log : d.log ≡ e.log
  report : report_of d ≡ report_of e

-- Every run is like itself.
alike_itself : (d : Done lab) → Alike d d
alike_itself d =
    record {
      outcome = refl;
      numbers = λ old. refl;
      memory = refl;
      disk = refl;
      frame = refl;
      log = refl;
      report = refl;
    }

-- What a run of an unsound record tells, by its other two questions.
abbrev unsound_outcome : Bool → Bool → Outcome
unsound_outcome a b = first_no ((1, a) ∷ (12, b) ∷ (13, false) ∷ []) 0 (accepted 0)

-- It is refused.
is-refused : {A : Type 0} (a b : Bool) (new old : A) → unless_refused (unsound_outcome a b) new old ≡ old
is-refused true true new old = refl
is-refused true false new old = refl
is-refused false b new old = refl

module _ (image memory disk frame irq2 : List ℕ) (budget : ℕ) (log : List ℕ) where
  -- What a record stands with, and its run.
  abbrev stands : Record → Standing
  stands r = standing_of image r memory disk frame

  abbrev pub run_of : Record → Done lab
  run_of r = run_call lab budget log irq2 (stands r)

  -- The run of an unsound record.
  unsound-run : (r : Record) → is_sound r ≡ false → run_of r ≡ refuse lab (stands r) log (unsound_outcome (are_lengths (stands r)) (rising irq2))
  unfolding run_call
  unsound-run r e = rw e (is-refused (are_lengths (stands r)) (rising irq2) _ _)

  -- A record that stands for numbers has a run like theirs.
  run-alike : (numbers : List ℕ) (s : Record) → StandsFor numbers s → Alike (run_of s) (run_of (record_of numbers))
  run-alike numbers s (inl e) = rw e (alike_itself (run_of (record_of numbers)))
  run-alike numbers s (inr e) =
      rw (unsound-run s e.0, unsound-run (record_of numbers) e.1)
      (record {
        outcome = refl;
        numbers = λ old. is-refused (are_lengths (stands s)) (rising irq2) _ old ∙ sym (is-refused (are_lengths (stands s)) (rising irq2) _ old);
        memory = refl;
        disk = refl;
        frame = refl;
        log = refl;
        report = refl;
      })

-- ---- the promise

-- A run that is like d, with three numbers of report.
runs_alike : (d e : Done lab) (numbers report numbers_after report_after : List ℕ) (r : Outcome) → Alike d e → eqb (length report) report_numbers ≡ true → r ≡ d.outcome
    → numbers_after ≡ cond (eqb r.number 0) (numbers_of (record_in d.lent.state)) numbers → report_after ≡ report_of d
    → Runs e numbers report r.number numbers_after d.lent.state.memory d.lent.state.disk d.lent.state.frame d.log report_after
runs_alike d e numbers report numbers_after report_after r a three t n p =
    record {
      number = ap (λ (x : Outcome). x.number) (t ∙ a.outcome);
      record_is = n ∙ rw t (a.numbers numbers);
      memory-is = a.memory;
      disk-is = a.disk;
      frame_is = a.frame;
      log_is = a.log;
      report-is = rw three (p ∙ a.report);
    }

module _ (numbers image memory disk frame irq2 : List ℕ) (budget : ℕ) (log report : List ℕ) where
  -- What the C face promises.
  abbrev Right : (r : ℕ) (numbers_after memory_after disk_after frame_after log_after report_after : List ℕ) → Type 0
  Right = Runs (simp_run numbers image memory disk frame irq2 budget log report) numbers report

  -- A run that question 1 refuses.
  refused-run : simp_run numbers image memory disk frame irq2 budget log report ≡ refuse lab (standing_of image (record_of numbers) memory disk frame) log (refused 1 0)
      → (report_after : List ℕ) → report_after ≡ cond (eqb (length report) report_numbers) (0 ∷ 0 ∷ 0 ∷ []) report → Right 1 numbers memory disk frame log report_after
  refused-run e report_after p =
      rw e
      (record {
        number = refl;
        record_is = refl;
        memory-is = refl;
        disk-is = refl;
        frame_is = refl;
        log_is = refl;
        report-is = p;
      })

  and_false : (a : Bool) → (a && false) ≡ false
  and_false true = refl
  and_false false = refl

  pub runs_wrong_report : eqb (length report) report_numbers ≡ false → Right 1 numbers memory disk frame log report
  runs_wrong_report e = refused-run (rw (e, and_false (eqb (length numbers) record_numbers))) report (rw e)

  module _ (three : eqb (length report) report_numbers ≡ true) where
    pub runs_wrong_record : eqb (length numbers) record_numbers ≡ false → (report_after : List ℕ) → report_after ≡ 0 ∷ 0 ∷ 0 ∷ []
        → Right 1 numbers memory disk frame log report_after
    runs_wrong_record e report_after p = refused-run (rw e) report_after (rw three p)

    -- A run of the code's record s.
    pub runs : eqb (length numbers) record_numbers ≡ true → (s : Record) → StandsFor numbers s
        → (d : Done lab) → d ≡ run_call lab budget log irq2 (standing_of image s memory disk frame) → (r : Outcome) → r ≡ d.outcome
        → (numbers_after : List ℕ) → numbers_after ≡ cond (eqb r.number 0) (numbers_of (record_in d.lent.state)) numbers
        → (report_after : List ℕ) → report_after ≡ report_of d
        → Right r.number numbers_after d.lent.state.memory d.lent.state.disk d.lent.state.frame d.log report_after
    runs e s w d is r t numbers_after n report_after p =
        let same : simp_run numbers image memory disk frame irq2 budget log report ≡ run_of image memory disk frame irq2 budget log (record_of numbers) = rw (e, three) in
        let a : Alike d (run_of image memory disk frame irq2 budget log (record_of numbers)) = rw is (run-alike image memory disk frame irq2 budget log numbers s w) in
        rw same (runs_alike d (run_of image memory disk frame irq2 budget log (record_of numbers)) numbers report numbers_after report_after r a three t n p)
