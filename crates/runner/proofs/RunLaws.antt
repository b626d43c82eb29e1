-- What a run hands back, put together. Assumes nothing.
use Prim.Native.Nat.{ℕ}
use mathlib.Core.Path.{◌≡◌, sym, ◌∙◌, ap}
use mathlib.Core.Bool.{Bool, true, false, ◌&&◌}
use mathlib.Core.List.{List, ◌++◌}
use lib.Dec.{eqb}
use lib.ListN.{length, take, drop}
use borrow.Author.Tests.{eqb-true}
use Rattle.text.proofs.Truth.{and_left, and_right}
use Rattle.text.specs.Questions.{accepted}
use Rattle.files.specs.Irq2File.{rising}
use Rattle.machine.specs.declared.Record.{Record}
use Rattle.machine.specs.State.{Machine}
use Rattle.executor.specs.Lent.{packed, Sized}
use Rattle.saved.specs.Sound.{is_sound}
use Rattle.claim.specs.Calls.{none, Done, run_from, run_outcome, ran, run_call}
use Rattle.runner.specs.declared.Ended.{Ended}
use Rattle.runner.specs.declared.RunError.{RunError}
use Rattle.std.proofs.Common.{Ok, Err}
use Rattle.runner.specs.declared.RunReport.{RunReport}
use Rattle.runner.specs.Lab.{simp, lab, code_of, record_in, machine_of, standing_of, are_lengths, Standing}
use Rattle.runner.specs.Answers.{run_refusal, reason_number, done_of, EndsRun}

-- ---- a run that is accepted

module _ (image irq2 memory disk frame log : List ℕ) (state : Record) (budget : ℕ) where
  -- The machine of the registers as the code holds them.
  held : (regs : List ℕ) → drop 3 regs ≡ state.regs → packed state.core regs state.io memory disk frame ≡ machine_of state memory disk frame
  held regs e = ap (λ (rs : List ℕ). machine_of (record { core = state.core; regs = rs; io = state.io }) memory disk frame) e

  -- What the cycles ended with, as the run's report.
  pub report : (regs : List ℕ) → drop 3 regs ≡ state.regs
      → (e : Ended) (regs' io' memory' disk' frame' log' : List ℕ)
      → EndsRun (code_of image irq2) budget log (packed state.core regs state.io memory disk frame) e (packed e.core regs' io' memory' disk' frame') log'
      → (kept : List ℕ) → kept ≡ drop 3 regs'
      → done_of (record { state = record { core = e.core; regs = kept; io = io' }; cycles = e.cycles; bytes = e.at; answer = Ok e.reason }) image memory' disk' frame' log'
      ≡ ran lab (standing_of image state memory disk frame) log (run_from simp (code_of image irq2) budget (length log) (machine_of state memory disk frame))
  report regs h e regs' io' memory' disk' frame' log' x kept same =
      whole ∙ ap (ran lab (standing_of image state memory disk frame) log) (sym x.is ∙ ap (λ (m : Machine). run_from simp (code_of image irq2) budget (length log) m) (held regs h))
    where
      rest : log' ≡ take e.at log' ++ drop (length (take e.at log')) log
      rest = x.rest ∙ ap (λ (n : ℕ). take e.at log' ++ drop n log) (sym x.count)

      whole : done_of (record { state = record { core = e.core; regs = kept; io = io' }; cycles = e.cycles; bytes = e.at; answer = Ok e.reason }) image memory' disk' frame' log'
          ≡ ran lab (standing_of image state memory disk frame) log
          (record { state = packed e.core regs' io' memory' disk' frame'; cycles = e.cycles; lines = take e.at log'; reason = reason_number e.reason })
      whole i =
          record {
            outcome = accepted 0;
            cycles = e.cycles;
            bytes = sym x.count i;
            reason = reason_number e.reason;
            log = rest i;
            lent = record { image = image; state = record { core = e.core; regs = same i; io = io'; memory = memory'; disk = disk'; frame = frame' } };
            trip-left = none;
          }

-- ---- the questions

module _ (w : Standing) (irq2 log : List ℕ) (budget : ℕ) where
  -- Each gets a yes.
  pub run-accepted : are_lengths w ≡ true → rising irq2 ≡ true → is_sound (record_in w.state) ≡ true → (d : Done lab)
      → d ≡ ran lab w log (run_from simp (code_of w.image irq2) budget (length log) w.state) → d ≡ run_call lab budget log irq2 w
  unfolding run_call
  run-accepted a b c d e = rw (a, b, c) e

  -- The first that gets a no.
  pub outcome-length : are_lengths w ≡ false → run_outcome lab irq2 w ≡ run_refusal RunError.WrongLength
  outcome-length a = rw a

  pub outcome-rising : are_lengths w ≡ true → rising irq2 ≡ false → run_outcome lab irq2 w ≡ run_refusal RunError.NotRising
  outcome-rising a b = rw (a, b)

  pub outcome-unsound : are_lengths w ≡ true → rising irq2 ≡ true → is_sound (record_in w.state) ≡ false → run_outcome lab irq2 w ≡ run_refusal RunError.Unsound
  outcome-unsound a b c = rw (a, b, c)

-- A run that is refused hands back what it was lent.
module _ (image irq2 memory disk frame log : List ℕ) (state : Record) (budget : ℕ) (error : RunError) where
  pub run-refused : run_outcome lab irq2 (standing_of image state memory disk frame) ≡ run_refusal error → eqb (run_refusal error).number 0 ≡ false
      → (r : RunReport) → r ≡ record { state = state; cycles = 0; bytes = 0; answer = Err error }
      → done_of r image memory disk frame log ≡ run_call lab budget log irq2 (standing_of image state memory disk frame)
  unfolding run_call
  run-refused outcome no_more r e = rw (e, outcome, no_more)

-- ---- tests

-- A test has the value of what it tests.
pub so : {t u b : Bool} → t ≡ u → t ≡ b → u ≡ b
so e f = sym e ∙ f

-- Right lengths.
pub right-lengths : (image memory disk frame : List ℕ) (state : Record) → are_lengths (standing_of image state memory disk frame) ≡ true
    → (length image ≡ 4096) × Sized memory disk frame
right-lengths image memory disk frame state e =
    let a = eqb (length image) 4096 in
    let b = eqb (length memory) 4096 in
    let d = eqb (length disk) 16384 in
    let f = eqb (length frame) 65536 in
    let abd = and_left (a && b && d) f e in
    let ab = and_left (a && b) d abd in (
      eqb-true (length image) 4096 (and_left a b ab),
      record {
        memory_size = eqb-true (length memory) 4096 (and_right a b ab);
        disk_size = eqb-true (length disk) 16384 (and_right (a && b) d abd);
        frame_size = eqb-true (length frame) 65536 (and_right (a && b && d) f e);
      },
    )
