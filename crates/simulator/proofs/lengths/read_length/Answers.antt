use mathlib.Core.Path.{refl}
use Rattle.machine.specs.Log.{io_lines}
use Rattle.simulator.proofs.lengths.read_length.Goals as goal

pub returns-then-is_listed : goal.returns-then-is_listed
unfolding io_lines
returns-then-is_listed c = λ io. rw (← c.plus-a.ensures, ← c.is_listed.ensures, c.if-is_listed.true) (c.line_h_length.ensures _)

pub returns : goal.returns
unfolding io_lines
returns c = λ io. rw (← c.plus-a.ensures, ← c.is_listed.ensures, c.if-is_listed.false) refl
