use mathlib.Core.Path.{sym}
use native.Mathlib.Omega.{arith}
use Rattle.text.proofs.PutLaws.{put_nil}
use Rattle.isa.specs.Operations.{operation_of}
use Rattle.simulator.proofs.StepLaws.{no_lines}
use Rattle.simulator.proofs.io_lines.put_io_lines.Goals as goal

pub put_read_line-requires : goal.put_read_line-requires
unfolding operation_of
put_read_line-requires c = rw c.in-19.is at c.requires

pub put_write_lines-requires : goal.put_write_lines-requires
unfolding operation_of
put_write_lines-requires c = rw c.in-20.is at c.requires

pub returns-in-19 : goal.returns-in-19
unfolding operation_of
returns-in-19 c = rw c.in-19.is c.put_read_line.ensures

pub returns-in-20 : goal.returns-in-20
unfolding operation_of
returns-in-20 c = rw c.in-20.is c.put_write_lines.ensures

pub returns-in_default : goal.returns-in_default
returns-in_default c =
    let a = c.args in
    rw (no_lines a.c a.op a.o a.io.now (λ e. omega arith) (λ e. omega arith)) (sym (put_nil _ _), omega arith)
