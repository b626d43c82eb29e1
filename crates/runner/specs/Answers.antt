-- What a run answers and leaves: document 01's number, place and reason for each answer, and all of it together.
use Rattle.std.specs.Prelude.{ℕ, ◌≡◌, Result, Ok, Err, cond, not, List, ◌++◌, eqb, leb, length, take, drop}
use Rattle.text.specs.declared.Outcome.{Outcome}
use Rattle.text.specs.Questions.{accepted, refused}
use Rattle.files.specs.Sizes.{cycle_limit}
use Rattle.machine.specs.declared.Core.{Core}
use Rattle.machine.specs.State.{Machine}
use Rattle.claim.specs.Calls.{Done, none, run_from}
use Rattle.runner.specs.declared.RunReport.{RunReport}
use Rattle.runner.specs.declared.Reason.{Reason}
use Rattle.runner.specs.declared.RunError.{RunError}
use Rattle.runner.specs.declared.Ended.{Ended}
use Rattle.runner.specs.Lab.{Code, simp, lab, machine_of}

-- "All: are the lent lengths those above (..)? 1." "Run: irq2 list strictly rising? 12. Record sound? 13."
abbrev pub run_refusal : RunError → Outcome
run_refusal RunError.WrongLength = refused 1 0
run_refusal RunError.NotRising = refused 12 0
run_refusal RunError.Unsound = refused 13 0

abbrev pub ran_outcome : Result Reason RunError → Outcome
ran_outcome (Ok reason) = accepted 0
ran_outcome (Err error) = run_refusal error

-- "status not 0 (reason 1); age = 2^40-1 (reason 3); budget spent (reason 0); the cycle's lines don't fit the rest of the log (reason 2)"; refused,
-- "every count and reason 0".
abbrev pub reason_number : Reason → ℕ
reason_number Reason.BudgetSpent = 0
reason_number Reason.Stopped = 1
reason_number Reason.LogFull = 2
reason_number Reason.AtLimit = 3

abbrev pub ran_reason : Result Reason RunError → ℕ
ran_reason (Ok reason) = reason_number reason
ran_reason (Err error) = 0

-- Why a machine with this status and age makes no further cycle, so many being made: the reason in document 01's order.
abbrev pub reason_of : Core → (cycles budget : ℕ) → ℕ
reason_of c cycles budget = cond (not (eqb c.status 0)) 1 (cond (eqb c.age cycle_limit) 3 (cond (leb budget cycles) 0 2))

-- What a run returned, and the image, the memories and the log that it was lent, after it.
abbrev pub done_of : RunReport → (image memory disk frame log : List ℕ) → Done lab
done_of r image memory disk frame log =
    record {
      outcome = ran_outcome r.answer;
      cycles = r.cycles;
      bytes = r.bytes;
      reason = ran_reason r.answer;
      log = log;
      lent = record { image = image; state = machine_of r.state memory disk frame };
      trip-left = none;
    }

-- A run of the machine m with the log `log` ended as e says: the machine and the log are m' and log' then.
pub record EndsRun (code : Code) (budget : ℕ) (log : List ℕ) (m : Machine) (e : Ended) (m' : Machine) (log' : List ℕ) : Type 0 where
  pub is : run_from simp code budget (length log) m ≡ record { state = m'; cycles = e.cycles; lines = take e.at log'; reason = reason_number e.reason }
  pub count : length (take e.at log') ≡ e.at
  pub rest : log' ≡ take e.at log' ++ drop e.at log
