use Rattle.std.proofs.Common.{refl, arith}
use Rattle.isa.specs.Registers.{io_bits}
use Rattle.saved.proofs.FieldLaws.{small-field, has_record}
use Rattle.saved.specs.Layout.{widths_one, record_one}
use Rattle.saved.proofs.fields.record_one.Goals as goal

pub overflow_cast-d : goal.overflow_cast-d
unfolding widths_one
overflow_cast-d c = record { fits = small-field widths_one c.args.f c.requires 5 refl }

pub record_from-requires : goal.record_from-requires
unfolding widths_one io_bits
record_from-requires c = has_record widths_one c.args.f c.requires 6 (omega arith) (omega arith) refl refl refl refl

pub returns : goal.returns
unfolding record_one
returns c = rw c.record_from.ensures refl
