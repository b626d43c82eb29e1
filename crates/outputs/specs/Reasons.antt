-- The line that says where and why a run stopped.
use Rattle.std.specs.Prelude.{ℕ, cond, List, [], ◌∷◌, ◌++◌, eqb}
use Rattle.text.specs.Bytes.{bytes}
use Rattle.text.specs.Lines.{LF}
use Rattle.text.specs.Numerals.{digits, decimal}
use Rattle.files.specs.Sizes.{cycle_limit}
use Rattle.machine.specs.declared.Core.{Core}
use Rattle.outputs.specs.Statuses.{status_words}

-- A machine that is running still made no further cycle: "age = 2^40-1 (reason 3); budget spent (reason 0)".
unfoldable pub unfinished : ℕ → List ℕ
unfinished age = cond (eqb age cycle_limit) (bytes "at the cycle limit") (bytes "the budget is spent")

-- "a fault sets its status": its number and its words.
unfoldable pub fault : ℕ → List ℕ
fault status = bytes "fault " ++ decimal status ++ bytes ", " ++ status_words status

-- Why the run stopped, by the machine's status.
unfoldable pub cause_of : Core → List ℕ
cause_of c = cond (eqb c.status 0) (unfinished c.age) (cond (eqb c.status 1) (bytes "halted") (fault c.status))

-- As `stopped at PC 00C: halted`.
unfoldable pub reason_line : Core → List ℕ
reason_line c = bytes "stopped at PC " ++ digits 16 3 c.pc ++ bytes ": " ++ cause_of c ++ (LF ∷ [])
