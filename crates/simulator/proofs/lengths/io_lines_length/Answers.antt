use Rattle.std.proofs.Common.{refl}
use Rattle.isa.specs.Operations.{operation_of}
use Rattle.simulator.proofs.AccessLaws.{access_lines, lines_of}
use Rattle.simulator.proofs.lengths.io_lines_length.Goals as goal

pub returns-in_default : goal.returns-in_default
unfolding access_lines
returns-in_default c =
    let a = c.args in
    rw (lines_of a.c a.o a.io.now _ (operation_of a.op) c.decode_opcode.ensures, c.in_default.is) refl

pub returns-in-Read : goal.returns-in-Read
unfolding access_lines
returns-in-Read c =
    let a = c.args in
    rw (lines_of a.c a.o a.io.now _ (operation_of a.op) c.in-Some.ensures, c.in-Read.is) (c.read_length.ensures _)

pub returns-in-Write : goal.returns-in-Write
unfolding access_lines
returns-in-Write c =
    let a = c.args in
    rw (lines_of a.c a.o a.io.now _ (operation_of a.op) c.in-Some.ensures, c.in-Write.is) c.write_length.ensures
