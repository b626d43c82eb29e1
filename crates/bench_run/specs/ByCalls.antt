-- Demand 3 of calls that a program made.
use Rattle.std.specs.Prelude.{ℕ, ◌-◌, ◌≡◌, ◌⊎◌, List, [], ◌∷◌, ◌++◌, length}
use Rattle.machine.specs.declared.Record.{Record}
use Rattle.claim.specs.Calls.{Call, run, Done, run_call, total, final}
use Rattle.claim.specs.Demand.{Demand3, Trace}
use Rattle.runner.specs.Lab.{lab, Standing, Fresh, standing_of}

-- An image and memories stand, with some record.
abbrev pub stands_with : List ℕ → List ℕ → List ℕ → List ℕ → Standing → Type 0
stands_with image memory disk frame w = (r : Record) × (w ≡ standing_of image r memory disk frame)

-- One run from `start` wrote so many bytes of log, the log is `log'` then, and after it stands what `Stands` says.
pub record ByOneRun (irq2 : List ℕ) (budget : ℕ) (log : List ℕ) (start : Standing) (bytes : ℕ) (log' : List ℕ) (Stands : Standing → Type 0) : Type 0 where
  pub count : bytes ≡ (run_call lab budget log irq2 start).bytes
  pub written : log' ≡ (run_call lab budget log irq2 start).log
  pub stands : Stands (run_call lab budget log irq2 start).lent

-- The last of these calls was a run with so much budget and room for its log, and it made no cycle.
pub record EndsIdle (left room : ℕ) (calls : List (Call lab)) (dones : List (Done lab)) : Type 0 where
  pub before : List (Call lab)
  pub dones-before : List (Done lab)
  pub log : List ℕ
  pub last : Done lab
  pub calls_are : calls ≡ before ++ run left log ∷ []
  pub dones_are : dones ≡ dones-before ++ last ∷ []
  pub room-is : length log ≡ room
  pub none : last.cycles ≡ 0

-- The log that calls leave which were lent `log`, each as the last one left it.
abbrev pub log_left : List ℕ → List (Done lab) → List ℕ
log_left log [] = log
log_left log (d ∷ ds) = log_left d.log ds

-- There is a list of calls from `start` that met their contracts, of which demand 3 holds where `start` is fresh, whose runs made so many cycles in total, and after which
-- the log is `log'` and stands what `Stands` says. The budget is spent then, or a run with the rest of it and the room of the log made no cycle.
pub record ByCalls (irq2 : List ℕ) (budget : ℕ) (log : List ℕ) (start : Standing) (cycles : ℕ) (log' : List ℕ) (Stands : Standing → Type 0) : Type 0 where
  pub calls : List (Call lab)
  pub dones : List (Done lab)
  pub trace : Trace lab irq2 start calls dones
  pub demand : Fresh start → Demand3 lab irq2 start calls dones
  pub made : total lab dones ≡ cycles
  pub ended : (cycles ≡ budget) ⊎ EndsIdle (budget - cycles) (length log) calls dones
  pub written : log' ≡ log_left log dones
  pub stands : Stands (final lab start calls dones)
