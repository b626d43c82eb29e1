-- The log lines of a cycle.
use Rattle.std.specs.Prelude.{ℕ, ◌+◌, Bool, cond, ◌&&◌, not, List, [], ◌++◌, eqb, length, get_or}
use Rattle.text.specs.Bytes.{bytes}
use Rattle.text.specs.Place.{put}
use Rattle.isa.specs.Word.{fields_of}
use Rattle.isa.specs.Operations.{Operation, operation_of, calculate, branch, jal, lw, sw, reti, input, output, halt, unknown}
use Rattle.isa.specs.Registers.{is_listed, leds, display7seg}
use Rattle.trace.specs.LogLines.{line_t, line_h, line_ld}
use Rattle.machine.specs.declared.Operands.{Operands}
use Rattle.machine.specs.State.{Machine}
use Rattle.machine.specs.Execution.{fetched, registers_of, operands_of, address}
use Rattle.machine.specs.Interrupts.{is_in}
use Rattle.machine.specs.Cycle.{at_fetch, stepped}

-- "An out that changes leds logs L, one that changes display7seg logs D." x goes to IO[n]; io are the I/O registers before.
unfoldable pub change_lines : ℕ → ℕ → ℕ → List ℕ → List ℕ
change_lines c n x io =
    cond (eqb n leds && not (eqb x (get_or io leds 0))) (line_ld (bytes "L") c x)
    (cond (eqb n display7seg && not (eqb x (get_or io display7seg 0))) (line_ld (bytes "D") c x)
    [])

-- "in and out log line H, before their effect; status 4 logs none, status 5 does."
unfoldable pub io_lines : ℕ → Operation → Operands → List ℕ → List ℕ
io_lines c (calculate k) o io = []
io_lines c (branch k) o io = []
io_lines c jal o io = []
io_lines c lw o io = []
io_lines c sw o io = []
io_lines c reti o io = []
io_lines c input o io = cond (is_listed (address o)) (line_h c (bytes "READ") (address o) (get_or io (address o) 0)) []
io_lines c output o io =
    cond (is_listed (address o)) (line_h c (bytes "WRITE") (address o) o.rm ++ change_lines c (address o) o.rm io) []
io_lines c halt o io = []
io_lines c unknown o io = []

-- The lines of a machine that is at step 3. The cycle is its age, which steps 1 and 2 don't change.
unfoldable pub lines_at_fetch : List ℕ → Machine → List ℕ
lines_at_fetch image m =
    let word = fetched image m in
    let f = fields_of word in
    line_t m.core.pc word (registers_of f m) ++ io_lines m.core.age (operation_of f.op) (operands_of f m) m.io

-- The lines of the cycle that m makes next.
abbrev pub cycle_lines : List ℕ → List ℕ → Machine → List ℕ
cycle_lines image irq2 m = lines_at_fetch image (at_fetch (is_in m.core.age irq2) m)

-- ---- a machine and its log

-- The machine, its log, and the place in the log after the lines written so far; what lies beyond keeps its contents.
pub record Traced : Type 0 where
  pub machine : Machine
  pub log : List ℕ
  pub at : ℕ

abbrev pub traced : Machine → List ℕ → ℕ → Traced
traced m log at = record { machine = m; log = log; at = at }

-- One cycle more; `hit`: c is in the irq2 list.
unfoldable pub traced_on : List ℕ → Bool → Traced → Traced
traced_on image hit t =
    let lines = lines_at_fetch image (at_fetch hit t.machine) in
    record { machine = stepped image hit t.machine; log = put t.log t.at lines; at = t.at + length lines }
