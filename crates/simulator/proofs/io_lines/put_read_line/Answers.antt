use mathlib.Core.Path.{sym, ◌∙◌}
use native.Mathlib.Omega.{arith}
use Rattle.text.proofs.PutLaws.{put_nil}
use Rattle.machine.specs.Log.{io_lines}
use Rattle.isa.proofs.IoLaws.{listed_lt}
use Rattle.simulator.proofs.io_lines.put_read_line.Goals as goal

pub bounds-io-a : goal.bounds-io-a
bounds-io-a c = listed_lt _ (sym c.is_listed.ensures ∙ c.if-is_listed.true)

pub put_line_h-requires : goal.put_line_h-requires
unfolding io_lines
put_line_h-requires c = rw (← c.plus-a.ensures, ← c.is_listed.ensures, c.if-is_listed.true) at c.requires

pub returns-then-is_listed : goal.returns-then-is_listed
unfolding io_lines
returns-then-is_listed c = rw (← c.plus-a.ensures, ← c.is_listed.ensures, c.if-is_listed.true) c.put_line_h.ensures

pub returns : goal.returns
unfolding io_lines
returns c = rw (← c.plus-a.ensures, ← c.is_listed.ensures, c.if-is_listed.false) (sym (put_nil _ _), omega arith)
