use mathlib.Core.Path.{refl}
use native.Mathlib.Omega.{arith}
use lib.ListN.{length-append}
use Rattle.machine.specs.Log.{io_lines}
use Rattle.machine.proofs.LineLaws.{length_out}
use Rattle.simulator.proofs.lengths.write_length.Goals as goal

pub overflow_add-result : goal.overflow_add-result
overflow_add-result c =
    let a = c.args in
    let h = c.line_h_length.ensures a.o.rm in
    let most = rw length-append at (length_out a.c c.requires c.plus-a.result a.o.rm a.io.now) in
    record { fits = omega (arith, h, c.change_length.ensures, most) }

pub returns-then-is_listed : goal.returns-then-is_listed
unfolding io_lines
returns-then-is_listed c =
    let h = c.line_h_length.ensures c.args.o.rm in
    rw (← c.plus-a.ensures, ← c.is_listed.ensures, c.if-is_listed.true, length-append) (omega (arith, h, c.change_length.ensures))

pub returns : goal.returns
unfolding io_lines
returns c = rw (← c.plus-a.ensures, ← c.is_listed.ensures, c.if-is_listed.false) refl
