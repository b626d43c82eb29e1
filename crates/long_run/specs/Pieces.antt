-- Runs whose log goes out in pieces.
use Rattle.std.specs.Prelude.{ℕ, ◌≤◌, ◌<◌, ◌≡◌, Bool, true, false, ◌⊎◌, List, eqb, take, length, Result}
use Rattle.machine.specs.State.{Machine}
use Rattle.machine.specs.Soundness.{Sound}
use Rattle.claim.specs.Plain.{is_over, after, log_after, Makes}
use Rattle.runner.specs.declared.Reason.{Reason}
use Rattle.runner.specs.declared.RunError.{RunError}
use Rattle.runner.specs.declared.RunReport.{RunReport}
use Rattle.runner.specs.Answers.{ran_reason}
use Rattle.runner.specs.Lab.{simp, code_of}
use Rattle.long_run.specs.declared.RunEnd.{RunEnd}

-- "budget 100,000 cycles"
abbrev pub whole_budget : ℕ
whole_budget = 100000

-- The plain machine with an irq2 list after n cycles from m, and the lines of those cycles.
abbrev pub machine_after : List ℕ → List ℕ → ℕ → Machine → Machine
machine_after image irq2 n m = after simp (code_of image irq2) n m

abbrev pub lines_of : List ℕ → List ℕ → ℕ → Machine → List ℕ
lines_of image irq2 n m = log_after simp (code_of image irq2) n m

-- The run ended because "the cycle's lines don't fit the rest of the log (reason 2)".
abbrev pub is_log_full : Result Reason RunError → Bool
is_log_full a = eqb (ran_reason a) 2

-- A run from m with so much budget, which reported r and left the machine n and the log `log`, is a piece of the plain machine's run.
pub record Piece (image irq2 : List ℕ) (budget : ℕ) (m : Machine) (r : RunReport) (n : Machine) (log : List ℕ) : Type 0 where
  pub machine : n ≡ machine_after image irq2 r.cycles m
  pub lines : take r.bytes log ≡ lines_of image irq2 r.cycles m
  pub room : r.bytes ≤ length log
  pub sound : Sound n.core n.regs n.io
  pub within : r.cycles ≤ budget
  -- The plain machine makes these cycles.
  pub makes : Makes simp (code_of image irq2) r.cycles m
  -- Where the log is full, a cycle was made; ..
  pub goes_on : is_log_full r.answer ≡ true → 0 < r.cycles
  -- .. else all that the budget allows and the plain machine makes, and the log has all their lines.
  pub ends : is_log_full r.answer ≡ false → (n ≡ machine_after image irq2 budget m) × (take r.bytes log ≡ lines_of image irq2 budget m)
  pub over : is_log_full r.answer ≡ false → (is_over simp n ≡ true) ⊎ (r.cycles ≡ budget)

-- A run from m with so much budget, whose log went out in pieces, ended with r and left the machine n.
pub record Ends (image irq2 : List ℕ) (budget : ℕ) (m : Machine) (r : RunEnd) (n : Machine) : Type 0 where
  pub machine : n ≡ machine_after image irq2 r.cycles m
  pub within : r.cycles ≤ budget
  pub sound : Sound n.core n.regs n.io
  -- The plain machine makes these cycles: none is counted that no cycle made.
  pub makes : Makes simp (code_of image irq2) r.cycles m
  -- Nothing is made only where there is no budget, or where the machine is over from the start.
  pub starts : r.cycles ≡ 0 → (is_over simp m ≡ true) ⊎ (budget ≡ 0)
  -- Where it answers that each piece of the log was written, all is made that the budget allows and the plain machine makes.
  pub over : r.written ≡ true → (is_over simp n ≡ true) ⊎ (r.cycles ≡ budget)
  pub ends : r.written ≡ true → n ≡ machine_after image irq2 budget m
