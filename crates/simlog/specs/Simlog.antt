-- "It reads an instruction file from standard input, other memories zero, no irq2 cycles, budget 100,000 cycles."
use Rattle.std.specs.Prelude.{ℕ, List, [], replicate}
use Rattle.files.specs.Sizes.{data_words, disk_words, frame_bytes}
use Rattle.machine.specs.State.{fresh_machine}
use Rattle.runner.specs.Lab.{machine_of}
use Rattle.long_run.specs.declared.RunEnd.{RunEnd}
use Rattle.long_run.specs.Pieces.{whole_budget, Ends}

-- The image was run from the fresh record; these are the other memories then.
pub record Ran (image : List ℕ) (r : RunEnd) : Type 0 where
  pub memory : List ℕ
  pub disk : List ℕ
  pub frame : List ℕ
  pub ends : Ends image [] whole_budget (fresh_machine (replicate data_words 0) (replicate disk_words 0) (replicate frame_bytes 0)) r (machine_of r.state memory disk frame)
