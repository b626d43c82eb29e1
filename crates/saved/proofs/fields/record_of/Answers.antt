use Rattle.std.proofs.Common.{refl, arith}
use Rattle.isa.specs.Registers.{io_bits}
use Rattle.saved.proofs.FieldLaws.{small-field, has_record}
use Rattle.saved.specs.Layout.{widths, record_of}
use Rattle.saved.proofs.fields.record_of.Goals as goal

pub overflow_cast-d : goal.overflow_cast-d
unfolding widths
overflow_cast-d c = record { fits = small-field widths c.args.f c.requires 5 refl }

pub overflow_cast-d-2 : goal.overflow_cast-d-2
unfolding widths
overflow_cast-d-2 c = record { fits = small-field widths c.args.f c.requires 6 refl }

pub overflow_cast-d-3 : goal.overflow_cast-d-3
unfolding widths
overflow_cast-d-3 c = record { fits = small-field widths c.args.f c.requires 7 refl }

pub record_from-requires : goal.record_from-requires
unfolding widths io_bits
record_from-requires c = has_record widths c.args.f c.requires 8 (omega arith) (omega arith) refl refl refl refl

pub returns : goal.returns
unfolding record_of
returns c = rw c.record_from.ensures refl
