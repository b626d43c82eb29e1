use Rattle.std.proofs.Common.{sym, refl, arith}
use Rattle.isa.specs.Operations.{operation_of}
use Rattle.isa.specs.Accesses.{access_of}
use Rattle.isa.proofs.OperationLaws.{calculation_at, comparison_at, nothing_at, unknown_above}
use Rattle.isa.proofs.opcodes.decode_opcode.Goals as goal

pub returns-in-19 : goal.returns-in-19
unfolding operation_of access_of
returns-in-19 c = rw c.in-19.is refl

pub returns-in-20 : goal.returns-in-20
unfolding operation_of access_of
returns-in-20 c = rw c.in-20.is refl

pub returns-in-21 : goal.returns-in-21
unfolding operation_of access_of
returns-in-21 c = rw c.in-21.is refl

pub returns-in-0-to-8 : goal.returns-in-0-to-8
unfolding access_of
returns-in-0-to-8 c = rw (calculation_at c.args.op (omega arith)) refl

pub returns-in-9-to-14 : goal.returns-in-9-to-14
unfolding access_of
returns-in-9-to-14 c = rw (comparison_at c.args.op (omega arith) (omega arith)) refl

pub returns-in-15-to-18 : goal.returns-in-15-to-18
returns-in-15-to-18 c = sym (nothing_at c.args.op (omega arith) (omega arith))

pub returns-in-22-to-4294967295 : goal.returns-in-22-to-4294967295
unfolding access_of
returns-in-22-to-4294967295 c = rw (unknown_above c.args.op (omega arith)) refl
